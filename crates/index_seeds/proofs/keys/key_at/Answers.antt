-- `index_seeds::keys::key_at` meets its contract: nothing is keyed yet.
use Rattle.index_seeds.proofs.Keying.{digits_start}
use Rattle.index_seeds.proofs.keys.key_at.Goals as goal

pub key_from-requires : goal.key_from-requires
key_from-requires c = record { table = c.requires.table; seed_in = c.requires.seed_in; key_begun = digits_start _ _ _ }
