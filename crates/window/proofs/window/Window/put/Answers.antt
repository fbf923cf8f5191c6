-- `Window::put` meets its contract. Assumes nothing.
use Rattle.std.proofs.Common.{rules}
use Rattle.window.proofs.WindowLaws.{put_piece}
use Rattle.window.proofs.window.Window.put.Goals as goal

pub returns : goal.returns
returns c = put_piece (search rules) c.bytes.ensures c.past.ensures
