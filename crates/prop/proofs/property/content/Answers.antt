-- `property::content` meets its contract; of CHNL, the names that the count tells are the layout's. Assumes nothing.
use Rattle.prop_fields.proofs.LayoutLaws.{channels-few}
use Rattle.prop.proofs.ChnlLaws.{chnl_count}
use Prim.Native.Nat.{◌≤◌}
use borrow.Author.Rules.{rules}
use Rattle.prop.proofs.property.content.Goals as goal

pub chnl_data-requires : goal.chnl_data-requires
chnl_data-requires c = rw c.channel_count-count.ensures (channels-few c.args.p.layout c.args.p.channels)

pub returns-in-Channels : goal.returns-in-Channels
returns-in-Channels c = let few : c.channel_count-count.result ≤ 6 = rw c.channel_count-count.ensures (channels-few c.args.p.layout c.args.p.channels) in
    rw (c.in-Channels.is, ← c.channels.ensures, ← c.channel_count-count.ensures, ← chnl_count c.channel_count-count.result c.channels.result (search rules))
    c.chnl_data.ensures
