-- `map_cursor::examined_to` meets its contract: the one count that is raised.
use Rattle.map_cursor.proofs.examined_to.Goals as goal

pub returns : goal.returns
returns c =
    let w = c.args.work in
    let e = c.raised_by-examined.ensures in
    λ i. record { lookups = w.lookups; hits = w.hits; examined = e i; comparisons = w.comparisons; seen = w.seen }
