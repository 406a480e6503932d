-- An error line as its parts are written one behind another. Source: this project's own.
use Rattle.std.specs.Prelude.{ℕ, List, [], ◌++◌, Option, Some, None, codes}
use Rattle.std.specs.Option.{option_map}
use Rattle.refusals.specs.Line.{usage_name}
use Rattle.error_lines.specs.declared.reading.ErrorLine.{ErrorLine}
use Rattle.error_lines.specs.declared.reading.Said.{Said}
use Rattle.error_lines.specs.declared.reading.Said.TheVariants.{Usage, UnknownName, BadNumber, BadForm, BadLine}
use Rattle.error_lines.specs.declared.reading.Said.TheVariants.{LongLine, Conflict, OfFile, Other}

-- the number of a line behind its front, where one is named
abbrev pub numbered_text : List ℕ → Option (List ℕ) → List ℕ
numbered_text front None = []
numbered_text front (Some number) = front ++ (number ++ codes ": ")

-- what is said
abbrev pub said_text : Said → List ℕ
said_text (Usage kind word) = codes "usage: " ++ (usage_name kind ++ (codes " at word " ++ word.now))
said_text (UnknownName name) = codes "unknown name " ++ name.now
said_text (BadNumber number) = codes "bad number " ++ number.now
said_text (BadForm line) = codes "bad form at line " ++ line.now
said_text (BadLine input line) = input.now ++ (codes ": " ++ (codes "bad line " ++ line.now))
said_text (LongLine input line) = input.now ++ (codes ": " ++ (codes "long line " ++ line.now))
said_text (Conflict input line first) =
    input.now ++ (codes ": " ++ (codes "line " ++ (line.now ++ (codes " conflicts with line " ++ first.now))))
said_text (OfFile file what) = file.now ++ (codes ": " ++ what.now)
said_text (Other text) = text.now

-- the line of these parts, without its newline
abbrev pub line_of : ErrorLine → List ℕ
line_of read =
    codes "quota: " ++ (numbered_text (codes "line ") (option_map (λ number. number.now) read.line)
    ++ (numbered_text (codes "input line ") (option_map (λ number. number.now) read.input_line) ++ said_text read.said))
