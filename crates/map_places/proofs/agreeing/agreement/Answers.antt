use Rattle.map_places.proofs.Alike.{letters_there}
use Rattle.map_places.proofs.agreeing.agreement.Goals as goal

pub oriented_agrees-requires : goal.oriented_agrees-requires
oriented_agrees-requires c = letters_there c.args.sequence.now c.args.at c.args.read.now c.args.from c.args.most c.requires c.loop-k.k c.loop-k-test.true
