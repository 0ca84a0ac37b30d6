-- `index_seeds::keys::power` meets its contract: the power fits.
use Rattle.index_seeds.proofs.Keying.{four_fits}
use Rattle.index_seeds.proofs.keys.power.Goals as goal

pub pow-requires : goal.pow-requires
pow-requires c = four_fits c.args.n c.requires
