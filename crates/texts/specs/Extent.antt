-- Parts of lent pools (01: "Comments, track titles and caller chunks name stretches too"). Assumes nothing.
use Rattle.std.specs.Prelude.{ℕ, List, take, drop}
use Rattle.texts.specs.declared.extent.Extent.{Extent}

-- the elements of a pool that an extent names; what runs outside the pool is cut off
unfoldable pub part : List ℕ → Extent → List ℕ
part pool e = take e.length (drop e.start pool)
