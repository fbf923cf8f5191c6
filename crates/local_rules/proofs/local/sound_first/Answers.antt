-- `local::sound_first` meets its contract. Assumes nothing.
use mathlib.Core.Path.{◌≡◌, sym, ap, ◌∙◌}
use mathlib.Core.Bool.{true}
use mathlib.Core.List.{List, map}
use Prim.Native.Nat.{ℕ}
use lib.Dec.{eqb}
use lib.ListN.{get_or, get_or-map}
use Rattle.chunk_names.specs.declared.LocalChunk.TheVariants.{Property, SoundData}
use Rattle.refusal.specs.Orders.{local_rank}
use Rattle.refusal.proofs.RankLaws.{local-same}
use Rattle.local_rules.specs.Local.{lacks}
use Rattle.local_rules.proofs.ListLaws.{map_take}
use Rattle.local_rules.proofs.local.sound_first.Goals as goal

pub returns-then-eq : goal.returns-then-eq
returns-then-eq c =
    let order = c.args.order.now in
    let named : eqb (get_or (map local_rank order) c.args.k 0) 1 ≡ true =
    ap (λ (n : ℕ). eqb n 1) (get_or-map local_rank order c.args.k Property)
    ∙ sym (local-same (get_or order c.args.k Property) SoundData)
    ∙ sym c.eq.ensures
    ∙ c.if-eq.true in
    rw named (c.lacks.ensures ∙ ap (λ (l : List ℕ). lacks l 0) (map_take local_rank c.args.k order))
