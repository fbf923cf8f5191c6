-- `names::same_id` meets its contract. Assumes nothing.
use borrow.Author.Rules.{rules}
use Rattle.chunk_names.proofs.NameLaws.{same_four}
use Rattle.chunk_names.proofs.same_id.Goals as goal

pub returns : goal.returns
returns c = same_four c.args.a c.args.b (search rules) (search rules)
