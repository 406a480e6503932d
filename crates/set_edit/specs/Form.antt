-- The form in which an editor shows and changes the limits of an identifier, as edquota(8) has one. Its texts are this
-- project's own.
use Rattle.std.specs.Prelude.{ℕ, List, ◌++◌, codes, decimal}
use Rattle.quota_types.specs.declared.file_kind.Kind.{Kind}
use Rattle.quota_types.specs.declared.file_kind.Kind.TheVariants.{User, Group, Project}
use Rattle.quota_types.specs.declared.record.Rec.{Rec}
use Rattle.quota_types.specs.Rec.{kib_of}

-- what stands in front of the name
unfoldable pub name_front : Kind → List ℕ
name_front User = codes "Disk quotas for user "
name_front Group = codes "Disk quotas for group "
name_front Project = codes "Disk quotas for project "

-- what stands between the name and the number
unfoldable pub id_front : Kind → List ℕ
id_front User = codes " (uid "
id_front Group = codes " (gid "
id_front Project = codes " (pid "

-- `Disk quotas for user NAME (uid ID):`, or `group` and `gid`, or `project` and `pid`
abbrev pub form_title : Kind → (name : List ℕ) → (id : ℕ) → List ℕ
form_title kind name id = name_front kind ++ name ++ id_front kind ++ decimal id ++ codes "):"

-- the line above the limits
unfoldable pub form_heading : List ℕ
form_heading = codes "  Filesystem blocks soft hard inodes soft hard"

-- a space and a number
abbrev pub number_column : ℕ → List ℕ
number_column number = codes " " ++ decimal number

-- what stands behind the file's name: the KiB of the space, rounded up, the soft and the hard limit of blocks, the
-- inodes, and the soft and the hard limit of inodes
abbrev pub form_columns : Rec → List ℕ
form_columns rec =
    number_column (kib_of rec.space) ++ number_column rec.bsoft ++ number_column rec.bhard
    ++ number_column rec.inodes ++ number_column rec.isoft ++ number_column rec.ihard

-- the line of the file with the limits
abbrev pub form_limits : (file : List ℕ) → Rec → List ℕ
form_limits file rec = codes "  " ++ file ++ form_columns rec

-- the form: its title, the line above the limits, and the line of the limits
unfoldable pub form_of : Kind → (name : List ℕ) → (id : ℕ) → (file : List ℕ) → Rec → List ℕ
form_of kind name id file rec =
    form_title kind name id ++ codes "\n" ++ form_heading ++ codes "\n" ++ form_limits file rec ++ codes "\n"
