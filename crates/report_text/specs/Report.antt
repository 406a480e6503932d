-- The report of a quota file. What the columns mean is what the manual page of repquota says; the widths and the
-- texts round them are this project's own.
use Rattle.std.specs.Prelude.{ℕ, ◌-◌, Bool, not, ◌&&◌, ◌||◌, ◌==◌, nat_lt, if◌then◌else◌, List, [], ◌∷◌, ◌++◌, length}
use Rattle.std.specs.Prelude.{replicate, filter, codes, decimal, Option, unwrap_or}
use Rattle.std.specs.List.{flat_map}
use Rattle.std.specs.FinMap.{entries}
use Rattle.quota_types.specs.declared.file_kind.Kind.{Kind}
use Rattle.quota_types.specs.declared.file_kind.Kind.TheVariants.{User, Group, Project}
use Rattle.quota_types.specs.declared.record.Rec.{Rec}
use Rattle.quota_types.specs.declared.record.Grace.{Grace}
use Rattle.quota_types.specs.Rec.{kib_of}
use Rattle.quota_types.specs.Timers.{is_exceeded}
use Rattle.quota_value.specs.QuotaValue.{QuotaValue}
use Rattle.report_options.specs.declared.options.Options.{Options}
use Rattle.report_text.specs.declared.usage.Usage.{Usage}
use Rattle.report_text.specs.Period.{period_of}

-- Columns. A place is one byte, and a text that is longer than its places widens the column.

-- a text at the left of this many places
abbrev pub left_in : ℕ → List ℕ → List ℕ
left_in width text = text ++ replicate (width - length text) 32

-- a text at the right of this many places
abbrev pub right_in : ℕ → List ℕ → List ℕ
right_in width text = replicate (width - length text) 32 ++ text

-- the four texts on blocks, or on inodes
pub record Columns : Type 0 where
  pub used : List ℕ
  pub soft : List ℕ
  pub hard : List ℕ
  pub grace : List ℕ

-- the texts of one line
pub record Row : Type 0 where
  pub name : List ℕ
  pub flags : List ℕ
  pub blocks : Columns
  pub inodes : Columns

-- a space and a text at the right of this many places
abbrev pub column : ℕ → List ℕ → List ℕ
column width text = codes " " ++ right_in width text

-- four columns, of which the first three have this many places and the last has 6
abbrev pub columns_in : ℕ → Columns → List ℕ
columns_in width texts =
    column width texts.used ++ column width texts.soft ++ column width texts.hard ++ column 6 texts.grace

-- a line of columns
abbrev pub line_of : Row → List ℕ
line_of row =
    left_in 12 row.name ++ codes " " ++ row.flags ++ columns_in 10 row.blocks ++ columns_in 8 row.inodes ++ codes "\n"

-- The head.

-- what stands in front of the title
unfoldable pub title_front : Kind → List ℕ
title_front User = codes "*** Report for user quotas on "
title_front Group = codes "*** Report for group quotas on "
title_front Project = codes "*** Report for project quotas on "

-- `*** Report for user quotas on FILE`, or `group` or `project`
abbrev pub title_line : Kind → List ℕ → List ℕ
title_line kind title = title_front kind ++ title ++ codes "\n"

-- `Block grace time: P; Inode grace time: Q`
unfoldable pub grace_line : Grace → List ℕ
grace_line grace =
    codes "Block grace time: " ++ period_of grace.block ++ codes "; Inode grace time: "
    ++ period_of grace.inode ++ codes "\n"

-- whose usage the lines show
abbrev pub kind_heading : Kind → List ℕ
kind_heading User = codes "User"
kind_heading Group = codes "Group"
kind_heading Project = codes "Project"

-- the line above the columns
unfoldable pub heading_line : Kind → List ℕ
heading_line kind = line_of (record {
  name = kind_heading kind;
  flags = codes "  ";
  blocks = record { used = codes "used"; soft = codes "soft"; hard = codes "hard"; grace = codes "grace" };
  inodes = record { used = codes "files"; soft = codes "soft"; hard = codes "hard"; grace = codes "grace" };
})

-- 89 hyphens
unfoldable pub hyphen_line : List ℕ
hyphen_line = replicate 89 45 ++ codes "\n"

-- the four lines in front of the columns
unfoldable pub head_of : Kind → List ℕ → Grace → List ℕ
head_of kind title grace = title_line kind title ++ grace_line grace ++ heading_line kind ++ hyphen_line

-- The columns of a record.

-- what is used of blocks: the KiB of the space, rounded up
abbrev pub blocks_of : Rec → Usage
blocks_of rec = record { used = kib_of rec.space; soft = rec.bsoft; hard = rec.bhard; timer = rec.btime }

-- what is used of inodes
abbrev pub inodes_of : Rec → Usage
inodes_of rec = record { used = rec.inodes; soft = rec.isoft; hard = rec.ihard; timer = rec.itime }

-- `+` where the soft or the hard limit is exceeded, else `-`
abbrev pub flag_of : Usage → ℕ
flag_of usage = if is_exceeded usage.soft usage.used || is_exceeded usage.hard usage.used then 43 else 45

-- what is left of the grace period of a soft limit that is exceeded, or `none` where it has run out or never began
abbrev pub grace_left : ℕ → Usage → List ℕ
grace_left now usage =
    if is_exceeded usage.soft usage.used
    then (if nat_lt now usage.timer then period_of (usage.timer - now) else codes "none")
    else codes "-"

-- when the grace period of a soft limit that is exceeded ends, in seconds since 1970
abbrev pub grace_end : Usage → List ℕ
grace_end usage = if is_exceeded usage.soft usage.used then decimal usage.timer else codes "0"

-- the grace column: what is left, or with `-p` when it ends
unfoldable pub grace_of : Options → ℕ → Usage → List ℕ
grace_of options now usage = if options.raw then grace_end usage else grace_left now usage

-- the four columns on blocks, or on inodes
abbrev pub columns_of : Options → ℕ → Usage → Columns
columns_of options now usage = record {
  used = decimal usage.used;
  soft = decimal usage.soft;
  hard = decimal usage.hard;
  grace = grace_of options now usage;
}

-- `#` and the number of an identifier
abbrev pub numbered : ℕ → List ℕ
numbered id = codes "#" ++ decimal id

-- the name of an identifier as it is shown: the name that it has, or `#` and its number
abbrev pub shown_name : (ℕ → Option (List ℕ)) → ℕ → List ℕ
shown_name names id = unwrap_or (names id) (numbered id)

-- the name in the line of an identifier: with `-n` it is always `#` and the number
abbrev pub name_of : (ℕ → Option (List ℕ)) → Options → ℕ → List ℕ
name_of names options id = if options.numeric then numbered id else shown_name names id

-- the line of an identifier with its record
unfoldable pub entry_line : (ℕ → Option (List ℕ)) → ℕ → Options → ℕ × Rec → List ℕ
entry_line names now options entry = line_of (record {
  name = name_of names options entry.0;
  flags = flag_of (blocks_of entry.1) ∷ flag_of (inodes_of entry.1) ∷ [];
  blocks = columns_of options now (blocks_of entry.1);
  inodes = columns_of options now (inodes_of entry.1);
})

-- an identifier that uses neither space nor inodes is shown only by `-v`
abbrev pub is_shown : Options → ℕ × Rec → Bool
is_shown options entry = options.verbose || not (entry.1.space == 0 && entry.1.inodes == 0)

-- the line of an identifier, where it is shown
abbrev pub shown_line : (ℕ → Option (List ℕ)) → ℕ → Options → ℕ × Rec → List ℕ
shown_line names now options entry = if is_shown options entry then entry_line names now options entry else []

-- the lines of the identifiers that are shown, ascending
abbrev pub lines_of : (ℕ → Option (List ℕ)) → ℕ → Options → List (ℕ × Rec) → List ℕ
lines_of names now options es = flat_map (entry_line names now options) (filter (is_shown options) es)

-- the report on a quota file: its head, and the lines of its identifiers
unfoldable pub report_of : QuotaValue → (ℕ → Option (List ℕ)) → List ℕ → ℕ → Options → List ℕ
report_of value names title now options =
    head_of value.kind title value.grace ++ lines_of names now options (entries value.records)
