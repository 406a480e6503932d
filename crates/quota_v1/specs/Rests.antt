-- What an opened flat file holds rests on the named file alone, which stands for it.
use Rattle.std.specs.Prelude.{◌≡◌, Bool, ℕ, List, Option, IsSomeAnd}
use Rattle.std.proofs.Common.{sym, subst, ◌∙◌}
use Rattle.quota_types.specs.declared.file_kind.Format.{Format}
use Rattle.quota_types.specs.declared.record.Grace.{Grace}
use Rattle.quota_value.specs.QuotaValue.{QuotaValue}
use Rattle.quota_v1.specs.FlatFile.{FlatStandsFor}
use Rattle.quota_v1.specs.Opened.{HoldsFlat}
use Rattle.quota_v1.specs.declared.window.Window.{Window}

-- another store with the same named file
pub rests_on_named : (tells : Bool) (named named' : Option (List ℕ)) (format : Format) (len : ℕ) (times : Grace)
    (window : Window) (value : QuotaValue) → named' ≡ named → HoldsFlat tells named format len times window value
    → HoldsFlat tells named' format len times window value
rests_on_named tells named named' format len times window value n held =
    record {
      told = held.told;
      file = held.file;
      there = n ∙ held.there;
      few = held.few;
      stands = held.stands;
      agrees = held.agrees;
    }

-- the named file stands for what is held
pub held_stands : (tells : Bool) (named : Option (List ℕ)) (format : Format) (len : ℕ) (times : Grace) (window : Window)
    (value : QuotaValue) → HoldsFlat tells named format len times window value
    → IsSomeAnd named (λ bytes. FlatStandsFor format bytes value)
held_stands tells named format len times window value held =
    subst (λ (file : Option (List ℕ)). IsSomeAnd file (λ (bytes : List ℕ). FlatStandsFor format bytes value))
    (sym held.there) held.stands
