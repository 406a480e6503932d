use Rattle.std.proofs.Common.{◌≡◌, List, ℕ, ap, length, take, ◌∙◌, arith, length-take}
use Rattle.memory_objects.proofs.TakenLemmas.{taken_front}
use Rattle.memory_objects.proofs.mem_source.MemSourceSource.read.Goals as goal

pub returns-clause-taken : goal.returns-clause-taken
returns-clause-taken c =
    let long : length c.copy_from_slice.new.self ≡ c.min-count.result =
    omega (arith, c.copy_from_slice.ensures.len, length-take c.min-count.result c.args.buf.now) in
    taken_front _ _ _ _ _
    (c.copy_from_slice.ensures.after ∙ ap (λ (left : List ℕ). take c.min-count.result left) c.left-left.ensures) long
