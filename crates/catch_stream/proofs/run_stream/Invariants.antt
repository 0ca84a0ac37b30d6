-- `catch_stream::run_stream` is safe and ends. The invariant: the job is kept, and a step has room.
use Rattle.catch_state.specs.Jobs.{buffers_of}
use Rattle.catch_stream.proofs.Running.{Runs}
use Rattle.catch_stream.proofs.run_stream.Given as goal

abbrev pub invariant-turns : goal.invariant-turns
invariant-turns g l =
    Runs l.job (buffers_of l.identifiers l.identifier_ends l.bases l.base_ends l.marks l.ranked l.keys l.ranks l.positions l.placements l.singles l.multi) l.entries l.buffer l.out l.from l.end l.at
