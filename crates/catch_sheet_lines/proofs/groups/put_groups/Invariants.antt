-- `catch_sheet_lines::groups::put_groups` meets its contract. The loop's invariant: the lines of the entries passed stand behind those of the output.
use Prim.Native.Nat.{ℕ}
use Rattle.lists.specs.Cut.{cut}
use Rattle.catch_sheet_lines.specs.Lent.{entry_lines}
use Rattle.catch_sheet_lines.proofs.Listing.{Listed}
use Rattle.catch_sheet_lines.proofs.groups.put_groups.Given as goal

abbrev pub invariant-loop-i : goal.invariant-loop-i
invariant-loop-i l = Listed (λ (j : ℕ). entry_lines (cut l.ends l.identifiers) j l.entries) l.initial.out l.at l.n l.out l.p l.i
