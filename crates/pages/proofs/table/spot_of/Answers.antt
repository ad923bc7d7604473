use Rattle.std.proofs.Common.{◌/◌, arith}
use Rattle.pages.proofs.TableLemmas.{entry_within}
use Rattle.pages.proofs.table.spot_of.Goals as goal

pub index-requires : goal.index-requires
index-requires c =
    let w = entry_within c.args.table.now.items (c.args.at / c.args.len) c.requires.page in
    omega (arith, w)
