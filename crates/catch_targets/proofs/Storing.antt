-- A target more at the front of five lists.
use mathlib.Core.Path.{◌≡◌, ap, ◌∙◌}
use mathlib.Core.List.{List, [], ◌∷◌, ◌++◌}
use Prim.Native.Nat.{ℕ, ◌+◌, ◌≤◌, ◌<◌}
use native.Mathlib.Numerals.{add-one}
use native.Mathlib.Omega.{arith}
use lib.ListN.{length, take, set, length-append}
use lib.Seq.{take-suc-set, length-take-le}
use Rattle.catch_text.specs.Writing.{Adds}
use Rattle.catch_commands.specs.Commands.{with_target}
use Rattle.catch_targets.specs.declared.Supply.{Supply}
use Rattle.catch_targets.specs.Supplied.{supplied_in, more_supply, SupplyRoom}

-- one element more
one_more : (l : List ℕ) (at v : ℕ) → at < length l → take (at + 1) (set l at v) ≡ take at l ++ v ∷ []
one_more l at v h = rw (add-one at) (take-suc-set l at v h)

module _ (s : Supply) (topology : ℕ) (name sequence is ies bs bes ms is' bs' : List ℕ) (room : SupplyRoom s name sequence is ies bs bes ms)
    (names total : ℕ) (named : Adds name is s.names is' names) (based : Adds sequence bs s.bases bs' total) where
  -- where a list that was added to ends
  end_is : (l added l' : List ℕ) (at r : ℕ) → at ≤ length l → Adds added l at l' r → r ≡ length (take at l ++ added)
  end_is l added l' at r h a = omega (arith, a.end, length-append (take at l) added, length-take-le at l h)

  pub stored : supplied_in (record { targets = s.targets + 1; names = names; bases = total }) is' (set ies s.targets names) bs' (set bes s.targets total) (set ms s.targets topology)
      ≡ with_target (supplied_in s is ies bs bes ms) topology name sequence
  stored =
      λ i. record {
        identifiers = named.written i;
        identifier_ends = (one_more ies s.targets names room.identifier_ends ∙ ap (λ n. take s.targets ies ++ n ∷ []) (end_is is name is' s.names names (omega (arith, room.identifiers)) named)) i;
        bases = based.written i;
        base_ends = (one_more bes s.targets total room.base_ends ∙ ap (λ n. take s.targets bes ++ n ∷ []) (end_is bs sequence bs' s.bases total (omega (arith, room.bases)) based)) i;
        marks = one_more ms s.targets topology room.marks i;
      }

  pub counted : ◌≡◌ {A = Supply} (record { targets = s.targets + 1; names = names; bases = total }) (more_supply s (length name) (length sequence))
  counted = λ i. record { targets = s.targets + 1; names = named.end i; bases = based.end i }
