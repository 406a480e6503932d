-- The lines of identifiers that are put one after another.
use Rattle.std.proofs.Common.{◌≡◌, ℕ, Bool, List, [], ◌∷◌, ◌++◌, Option, Some, None, refl, sym, ap, subst, ◌∙◌, arith}
use Rattle.std.proofs.Common.{append_assoc, append-nil}
use Rattle.std.specs.FinMap.{entries}
use Rattle.quota_types.specs.declared.file_kind.Kind.{Kind}
use Rattle.quota_types.specs.declared.record.Rec.{Rec}
use Rattle.quota_types.specs.declared.record.Grace.{Grace}
use Rattle.quota_types.specs.declared.record.Entry.{Entry}
use Rattle.quota_value.specs.QuotaValue.{QuotaValue, Records}
use Rattle.quota_value.specs.NextRecord.{IsNextAfter}
use Rattle.quota_value.proofs.EntriesLemmas.{entries_after, entries_after-all, entries_after-next, entries_after-end}
use Rattle.report_options.specs.declared.options.Options.{Options}
use Rattle.outside.specs.Gathering.{Gathers, WritesPrefix}
use Rattle.report_text.specs.Report.{report_of, head_of, lines_of, shown_line}
use Rattle.report_text.proofs.GatherLemmas.{gathers_none, gathers_then, writes_more, writes_then, writes_gathered}

module _ (names : ℕ → Option (List ℕ)) (now : ℕ) (options : Options) where
  -- the lines of entries are that of the first, where it is shown, and those of the others
  lines-cons : (entry : ℕ × Rec) (es : List (ℕ × Rec))
      → lines_of names now options (entry ∷ es) ≡ shown_line names now options entry ++ lines_of names now options es
  lines-cons entry es = grind arith

  -- the report of a value is the head of its kind and grace periods, and the lines of its entries
  pub report_is : (value : QuotaValue) (kind : Kind) (grace : Grace) (title : List ℕ) → value.kind ≡ kind
      → grace ≡ value.grace
      → report_of value names title now options
      ≡ head_of kind title grace ++ lines_of names now options (entries value.records)
  unfolding report_of
  report_is value kind grace title same_kind same_grace =
      ap (λ (k : Kind). head_of k title value.grace ++ lines_of names now options (entries value.records)) same_kind
      ∙ ap (λ (g : Grace). head_of kind title g ++ lines_of names now options (entries value.records)) (sym same_grace)

  -- The lines of the identifiers up to `after` were put.
  pub record IsPutUpTo (tells : Bool) (written buffered written_now buffered_now : List ℕ) (records : Records)
      (after : Option ℕ) : Type 0 where
    pub lines : List ℕ
    pub gathers : Gathers tells written buffered written_now buffered_now lines
    pub whole : lines ++ lines_of names now options (entries_after after (entries records))
        ≡ lines_of names now options (entries records)

  -- none yet
  pub put_none : (tells : Bool) (written buffered : List ℕ) (records : Records)
      → IsPutUpTo tells written buffered written buffered records None
  put_none tells written buffered records = record {
    lines = [];
    gathers = gathers_none tells written buffered;
    whole = ap (lines_of names now options) (entries_after-all (entries records));
  }

  -- the lines that are left begin with that of the next one
  left : (lines : List ℕ) (records : Records) (after : Option ℕ) (entry : Entry)
      → IsNextAfter after records (Some entry)
      → (lines ++ shown_line names now options (entry.id, entry.rec))
      ++ lines_of names now options (entries_after (Some entry.id) (entries records))
      ≡ lines ++ lines_of names now options (entries_after after (entries records))
  left lines records after entry next =
      append_assoc lines _ _
      ∙ ap (λ (rest : List ℕ). lines ++ rest)
      (sym (lines-cons (entry.id, entry.rec) _)
      ∙ ap (lines_of names now options) (sym (entries_after-next after records entry next)))

  module _ (tells : Bool) (written buffered written_1 buffered_1 : List ℕ) (records : Records) (after : Option ℕ)
      (put : IsPutUpTo tells written buffered written_1 buffered_1 records after) where
    -- one more
    pub put_more : (written_2 buffered_2 : List ℕ) (entry : Entry) → IsNextAfter after records (Some entry)
        → Gathers tells written_1 buffered_1 written_2 buffered_2 (shown_line names now options (entry.id, entry.rec))
        → IsPutUpTo tells written buffered written_2 buffered_2 records (Some entry.id)
    put_more written_2 buffered_2 entry is more = record {
      lines = put.lines ++ shown_line names now options (entry.id, entry.rec);
      gathers = gathers_then _ _ _ _ _ _ _ _ _ _ put.gathers more refl;
      whole = left put.lines records after entry is ∙ put.whole;
    }

    -- all of them
    pub put_all : IsNextAfter after records None
        → Gathers tells written buffered written_1 buffered_1 (lines_of names now options (entries records))
    put_all none =
        let all : put.lines ≡ lines_of names now options (entries records) =
        sym (append-nil put.lines)
        ∙ ap (λ (es : List (ℕ × Rec)). put.lines ++ lines_of names now options es)
        (sym (entries_after-end after records none)) ∙ put.whole in
        subst (λ (t : List ℕ). Gathers tells written buffered written_1 buffered_1 t) all put.gathers

    -- a fault while the line of the next one is put
    pub put_fault : (written_2 : List ℕ) (entry : Entry) → IsNextAfter after records (Some entry)
        → WritesPrefix tells written_1 buffered_1 written_2 (shown_line names now options (entry.id, entry.rec))
        → WritesPrefix tells written buffered written_2 (lines_of names now options (entries records))
    put_fault written_2 entry is fault =
        writes_more _ _ _ _ _ _ _ (writes_then _ _ _ _ _ _ _ _ _ put.gathers fault refl)
        (sym (left put.lines records after entry is ∙ put.whole))

    -- a fault while the next one is looked up
    pub put_part : WritesPrefix tells written buffered written_1 (lines_of names now options (entries records))
    put_part = writes_gathered _ _ _ _ _ _ _ _ put.gathers (sym put.whole)
