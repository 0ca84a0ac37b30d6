-- The first steps of a job, by what their calls answer.
use Rattle.std.specs.Prelude.{Result, Ok, Err}
use Rattle.catch_commands.specs.declared.Unread.{Unread}
use Rattle.catch_commands.specs.declared.Unread.TheVariants as unread
use Rattle.promises.specs.declared.refusal.Refusal.{Refusal}
use Rattle.promises.specs.Refusal.{refusal_number}
use mathlib.Core.Path.{◌≡◌, refl, sym, ap, subst, ◌∙◌}
use mathlib.Core.Bool.{Bool, true, ◌||◌}
use mathlib.Core.List.{List, [], ◌∷◌}
use Prim.Native.Nat.{ℕ, suc, ◌+◌, ◌≤◌}
use native.Mathlib.Omega.{arith}
use lib.ListN.{length, take, drop, length-take}
use lib.Seq.{length-take-le}
use lib.Dec.{eqb}
use Rattle.lists.specs.Cut.{window}
use Rattle.catalogue.specs.Catalogue.{Catalogue}
use Rattle.audit_ledger.specs.Booking.{Counters}
use Rattle.audit_model.specs.declared.settings.Settings.{Settings}
use Rattle.audit_model.specs.Settings.{audit_seed, audit_offset}
use Rattle.audit_model.specs.Opening.{opening_refusal, started}
use Rattle.catch_commands.specs.declared.TargetHead.{TargetHead}
use Rattle.catch_commands.specs.Commands.{with_target}
use Rattle.catch_commands.specs.Telling.{SettingsTold, target_at, TargetWithin, TargetTold, TargetsTold}
use Rattle.catch_targets.specs.declared.Supply.{Supply}
use Rattle.catch_targets.specs.Supplied.{supplied_in, more_supply}
use Rattle.catch_model.specs.Job.{no_targets, lent_of, beginning, supplying, running}
use Rattle.catch_model.specs.Feeding.{Goes, by_bytes, by_opening, settings_lack, target_lacks}
use Rattle.catch_model.proofs.Steps.{begin_read, begin_wrong, begin_short, begin_other, supply_read, supply_wrong, supply_short, supply_other, opening_refuses, opening_accepts}
use Rattle.catch_opening.specs.Opened.{JobOpens}
use Rattle.catch_opening.specs.declared.Indexed.{Indexed}
use Rattle.catch_advance.specs.declared.Advance.{Advance}
use Rattle.catch_advance.specs.Advancing.{WentOn, Advances, Refuses, Stays}
use Rattle.catch_advance.proofs.Advancing.{refuses, stays, goes_on}
use Rattle.catch_supply.specs.Supplying.{went, SupplyKept, OpensAt}

-- ---- 01

module _ (ended : Bool) (code : ℕ) (bytes out : List ℕ) (at : ℕ) where
  pub begin_elsewhere : (out' : List ℕ) (r : Advance) → (code ≡ 1 → ⊥) → Refuses 20 out at out' r → Advances ended beginning (code ∷ bytes) out at out' r beginning
  begin_elsewhere out' r ne f = refuses beginning beginning (code ∷ bytes) out at out' r ended 20 f (begin_other bytes code ne)

  module _ (is : code ≡ 1) where
    pub begin_reads : (s : Settings) → SettingsTold bytes (Ok s) → Advances ended beginning (code ∷ bytes) out at out (went at 12) (supplying s no_targets)
    begin_reads s p =
        rw is (goes_on beginning (supplying s no_targets) (1 ∷ bytes) out at out ended 12 refl (omega (arith, p.within)) (by_bytes _ _ _ (omega arith) (omega arith)) (begin_read bytes s p))

    module _ (out' : List ℕ) (r : Advance) where
      pub begin-refuses : SettingsTold bytes (Err unread.Wrong) → Refuses 20 out at out' r → Advances ended beginning (code ∷ bytes) out at out' r beginning
      begin-refuses p f = rw is (refuses beginning beginning (1 ∷ bytes) out at out' r ended 20 f (begin_wrong bytes p))

      pub begin-stays : SettingsTold bytes (Err unread.More) → Stays ended out at out' r → Advances ended beginning (code ∷ bytes) out at out' r beginning
      begin-stays p f =
          rw is (stays beginning (1 ∷ bytes) out at out' r (omega (arith, p.few)) ended f (settings_lack bytes p.ended) (begin_short bytes p.ended))

-- ---- 02

-- no more than so many
at_most : (n : ℕ) (l : List ℕ) → length (take n l) ≤ n
at_most n l = omega (arith, length-take n l)

module _ (held : Supply) (is ies bs bes ms : List ℕ) (kept : SupplyKept held is ies bs bes ms) (bytes : List ℕ) where
  -- the targets so far
  abbrev c : Catalogue
  c = supplied_in held is ies bs bes ms

  many : length c.marks ≡ held.targets
  many = length-take-le held.targets ms (omega (arith, kept.targets, kept.marks))

  long : length c.bases ≡ held.bases
  long = length-take-le held.bases bs (omega (arith, kept.bases, kept.sequences))

  as_told : (a : Result TargetHead Unread) → TargetsTold held.targets held.bases bytes a → TargetTold c bytes a
  as_told a told = told c many long

  module _ (ended : Bool) (out : List ℕ) (at : ℕ) (out' : List ℕ) (r : Advance) where
    pub supply-refuses : TargetsTold held.targets held.bases bytes (Err unread.Wrong) → Refuses 20 out at out' r → (s : Settings) → Advances ended (supplying s c) (2 ∷ bytes) out at out' r (supplying s c)
    supply-refuses e f s = refuses (supplying s c) (supplying s c) (2 ∷ bytes) out at out' r ended 20 f (supply_wrong s c bytes (as_told (Err unread.Wrong) e))

    pub supply-stays : TargetsTold held.targets held.bases bytes (Err unread.More) → Stays ended out at out' r → (s : Settings) → Advances ended (supplying s c) (2 ∷ bytes) out at out' r (supplying s c)
    supply-stays e f s =
        let p = as_told (Err unread.More) e in
        stays (supplying s c) (2 ∷ bytes) out at out' r (omega (arith, p.few)) ended f (target_lacks s c bytes p.ended) (supply_short s c bytes p.ended)

  module _ (h : TargetHead) (read : TargetsTold held.targets held.bases bytes (Ok h)) where
    -- all its bytes are there
    pub target_there : 6 + h.name + h.count ≤ length bytes
    target_there = (as_told (Ok h) read).0.within

    -- and it is within the bounds
    pub target_fitting : TargetWithin held.targets held.bases h
    target_fitting =
        let w = (as_told (Ok h) read).1 in
        record { one = omega (arith, w.one, many); identifier = w.identifier; bases = omega (arith, w.bases, long) }

    -- with no more than that stored, there is still room
    pub kept_more : (held' : Supply) (is' ies' bs' bes' ms' : List ℕ) (n k : ℕ) (x y : List ℕ) → n ≤ h.name → k ≤ h.count → held' ≡ more_supply held (length (take n x)) (length (take k y))
        → length is' ≡ length is → length ies' ≡ length ies → length bs' ≡ length bs → length bes' ≡ length bes → length ms' ≡ length ms → SupplyKept held' is' ies' bs' bes' ms'
    kept_more held' is' ies' bs' bes' ms' n k x y named based e li lie lb lbe lm =
        let w = target_fitting in
        rw e (record {
          targets = omega (arith, w.one);
          names = omega (arith, kept.names, w.identifier, at_most n x);
          bases = omega (arith, w.bases, at_most k y);
          identifiers = li ∙ kept.identifiers;
          identifier_ends = lie ∙ kept.identifier_ends;
          sequences = lb ∙ kept.sequences;
          base_ends = lbe ∙ kept.base_ends;
          marks = lm ∙ kept.marks;
        })

    -- where it is stored as it stands, the run goes on with it where it ends
    module _ (n k : ℕ) (c' : Catalogue) (stored : c' ≡ with_target c h.topology (window bytes 6 n) (window bytes (6 + h.name) k)) (named : n ≡ h.name) (based : k ≡ h.count) where
      same_target : c' ≡ target_at c bytes h
      same_target = stored ∙ rw (named, based) refl

      module _ (end : ℕ) (last : end ≡ 7 + h.name + h.count) where
        behind_target : drop (6 + h.name + h.count) bytes ≡ drop end (2 ∷ bytes)
        behind_target = let e : suc (6 + h.name + h.count) ≡ end = omega arith in ap (λ m. drop m (2 ∷ bytes)) e

        supply_goes : (s : Settings) → Goes (supplying s c) (2 ∷ bytes) [] (supplying s c') (drop end (2 ∷ bytes))
        supply_goes s =
            rw same_target (subst (Goes (supplying s c) (2 ∷ bytes) [] (supplying s (target_at c bytes h))) behind_target (supply_read s c bytes (target_at c bytes h) (6 + h.name + h.count) (as_told (Ok h) read).0))

        pub supply-went : (s : Settings) → WentOn (supplying s c) (2 ∷ bytes) end [] (supplying s c')
        supply-went s = record { within = omega (arith, target_there); further = by_bytes (supplying s c) end (supplying s c') (omega arith) (omega arith); goes = supply_goes s }

-- ---- the opening

-- it is run at 03 and at 05
pub at_three : (code : ℕ) → code ≡ 3 → (eqb code 3 || eqb code 5) ≡ true
at_three code e = rw e refl

pub at_five : (code : ℕ) → code ≡ 5 → (eqb code 3 || eqb code 5) ≡ true
at_five code e = rw e refl

module _ (code : ℕ) (c : Catalogue) (s : Settings) (k : Counters) (out : List ℕ) (at : ℕ) (ranked ks rs os : List ℕ) (two : code ≡ 2 → ⊥) where
  pub open_elsewhere : (out' : List ℕ) (r : Advance) → (code ≡ 3 → ⊥) → (code ≡ 5 → ⊥) → Refuses 20 out at out' r → OpensAt code c s k out at out' (Err r) ranked ks rs os
  open_elsewhere out' r three five f =
      λ e ended bytes. refuses (supplying s c) (supplying s c) (code ∷ bytes) out at out' r ended 20 f (supply_other s c bytes code two three five)

  module _ (due : (eqb code 3 || eqb code 5) ≡ true) where
    -- the refusal for counters of zero
    the_refusal : (n : ℕ) → opening_refusal audit_seed audit_offset c (lent_of c) s k ≡ n → k ≡ (started c s).counters → opening_refusal audit_seed audit_offset c (lent_of c) s (started c s).counters ≡ n
    the_refusal n e z = ap (opening_refusal audit_seed audit_offset c (lent_of c) s) (sym z) ∙ e

    pub open_refuses : (e : Refusal) → JobOpens c s k (Err e) ranked ks rs os → (out' : List ℕ) (r : Advance) → Refuses (refusal_number e) out at out' r → OpensAt code c s k out at out' (Err r) ranked ks rs os
    open_refuses e p out' r f =
        let n = refusal_number e in
        λ z ended bytes. refuses (supplying s c) (supplying s c) (code ∷ bytes) out at out' r ended n f (opening_refuses s c bytes code due two n (the_refusal n p.0 z) p.1)

    pub open_goes : (i : Indexed) → JobOpens c s k (Ok i) ranked ks rs os → OpensAt code c s k out at out (Ok i) ranked ks rs os
    open_goes i p =
        λ z ended bytes.
        let n = the_refusal 0 p.0 z in
        (goes_on (supplying s c) (running c (started c s)) (code ∷ bytes) out at out ended 0 refl (omega arith) (by_opening s c c (started c s)) (opening_accepts s c bytes code due two n), p.1, n)
