-- What adding quota files to exports leaves, file by file.
use Rattle.std.specs.Prelude.{◌≡◌, ◌+◌, ℕ, zero, suc, Bool, true, false, List, [], ◌∷◌, ◌++◌, map, take, Result, Ok}
use Rattle.std.specs.Prelude.{Err}
use Rattle.quota_types.specs.declared.file_kind.Format.{Format}
use Rattle.outside.specs.Frame.{OnlyReads}
use Rattle.outside.specs.Seen.{StoreSeen}
use Rattle.opened_file.specs.declared.quota_file.OpenFault.{OpenFault}
use Rattle.quota_map.specs.Asked.{Asked}
use Rattle.quota_map.specs.View.{IsOpenFault, IsOpenedAs}
use Rattle.rquota_serve.specs.Exports.{fresh_export}
use Rattle.rquota_serve.specs.ExportSeen.{ExportSeen}
use Rattle.rquota_serve.specs.declared.new_export.AddFault.{AddFault}
use Rattle.rquota_serve.specs.declared.new_export.NewExport.{NewExport}
use Rattle.rquota_serve.specs.Adding.{NewSeen}

-- what is seen of one, without where its texts stand
abbrev pub new_seen : NewExport → NewSeen
new_seen new = record { path = new.path.now; kind = new.kind; file = new.file.now }

-- what is seen of all of them
abbrev pub news_seen : List NewExport → List NewSeen
news_seen news = map new_seen news

-- those that were exported: all of them, or those before the first one that was refused
abbrev pub added_of : List NewSeen → Result (Unit {0}) AddFault → List NewSeen
added_of news (Ok _) = news
added_of news (Err met) = take met.place news

-- those that were tried: all of them, or those up to the first one that was refused
abbrev pub tried_of : List NewSeen → Result (Unit {0}) AddFault → List NewSeen
tried_of news (Ok _) = news
tried_of news (Err met) = take (met.place + 1) news

-- what came of adding files, told of these behind one more
abbrev pub one_later : Result (Unit {0}) AddFault → Result (Unit {0}) AddFault
one_later (Ok done) = Ok done
one_later (Err met) = Err (record met { place = met.place + 1 })

-- The exports are the old ones, and behind them these files in their order, each opened as the format that is asked
-- for.
abbrev pub AreAdded : Asked → List NewSeen → (old new : List ExportSeen) → Type 0
AreAdded asked [] old new = new ≡ old
AreAdded asked (one ∷ news) old new =
    (opened : Format) × IsOpenedAs asked opened
    × AreAdded asked news (old ++ fresh_export one.path one.kind one.file opened ∷ []) new

-- The store was only read: each of these files, one after another.
abbrev pub ReadsEach : List NewSeen → (old new : StoreSeen) → Type 0
ReadsEach [] old new = new ≡ old
ReadsEach (one ∷ news) old new =
    (between : StoreSeen) × OnlyReads true one.file old between × ReadsEach news between new

-- The file at this place was not opened, for this reason, once those before it were read; none behind it was tried.
abbrev pub IsRefusedAt : Bool → Asked → ℕ → List NewSeen → OpenFault → (old new : StoreSeen) → Type 0
IsRefusedAt tells asked place [] fault old new = ⊥
IsRefusedAt tells asked zero (one ∷ news) fault old new =
    OnlyReads false one.file old new × IsOpenFault old.faults new.faults tells (old.files one.file) one.kind asked fault
IsRefusedAt tells asked (suc place) (one ∷ news) fault old new =
    (between : StoreSeen) × OnlyReads true one.file old between × IsRefusedAt tells asked place news fault between new
