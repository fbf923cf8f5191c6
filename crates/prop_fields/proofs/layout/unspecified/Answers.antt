-- `layout::unspecified` meets its contract: an array's `map`. Assumes nothing.
use Rattle.chunk_names.proofs.ArrayLaws.{mapped}
use borrow.Author.Rules.{rules}
use Rattle.prop_fields.specs.Layout.{channel_name}
use Rattle.prop_fields.proofs.layout.unspecified.Goals as goal

pub returns : goal.returns
returns c = rw (← c.numbers_of.ensures) (mapped channel_name c.map.ensures.items (search rules) 0 (λ p q x y called. search rules))
