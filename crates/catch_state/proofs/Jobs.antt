-- Each step of a job: the stage that it comes to, and what is kept.
use Rattle.std.specs.Prelude.{Result, Ok, Err}
use Rattle.catch_opening.specs.declared.Indexed.{Indexed}
use mathlib.Core.Path.{◌≡◌, refl, sym, ap, subst, subst₂, ◌∙◌}
use mathlib.Core.Bool.{Bool}
use mathlib.Core.List.{List, [], ◌∷◌, ◌++◌}
use Prim.Native.Nat.{ℕ, zero, suc, ◌-◌, ◌*◌, ◌≤◌}
use native.Mathlib.Omega.{arith}
use lib.ListN.{length, get_or, take, drop, replicate, length-map, length-take, length-append, length-drop}
use lib.Seq.{length-take-le, take-length, take-append_seam}
use Rattle.lists.proofs.Cut.{length_cut}
use Rattle.catalogue.specs.Catalogue.{Catalogue, names, sequences, targets}
use Rattle.catalogue.proofs.Mapped.{targets_count}
use Rattle.index_model.specs.Index.{index}
use Rattle.audit_ledger.specs.Booking.{counters_of}
use Rattle.audit_model.specs.declared.settings.Settings.{Settings}
use Rattle.audit_model.specs.Settings.{Held, audit_seed}
use Rattle.audit_model.specs.Opening.{columns, started}
use Rattle.catch_commands.specs.Commands.{max_stream_targets}
use Rattle.catch_targets.specs.Supplied.{supplied_in}
use Rattle.catch_model.specs.Job.{stream_entries, beginning, supplying}
use Rattle.catch_model.specs.Feeding.{no_byte}
use Rattle.catch_model.proofs.Steps.{none_left}
use Rattle.catch_opening.specs.Opened.{JobRoom}
use Rattle.catch_advance.specs.declared.Advance.{Advance}
use Rattle.catch_advance.specs.Advancing.{Advances, Stays}
use Rattle.catch_advance.proofs.Advancing.{stays}
use Rattle.catch_supply.specs.declared.Supplied.{Supplied}
use Rattle.catch_supply.specs.Supplying.{Begins, SupplyKept, SupplyTold, OpensAt}
use Rattle.catch_run.specs.declared.RunStep.{RunStep}
use Rattle.catch_run.specs.Running.{Passes, Runs, Ran}
use Rattle.catch_state.specs.declared.JobStage.TheVariants as stages
use Rattle.catch_state.specs.declared.Job.{Job}
use Rattle.catch_state.specs.declared.Advanced.{Advanced}
use Rattle.catch_state.specs.Jobs.{begun_job, opened_job, Buffers, buffers_of, supplied_of, held_by, stage_at, stage_of, KeptAt, JobKept, JobAdvances}

take_zeros : (n m : ℕ) → n ≤ m → take n (replicate {A = ℕ} m 0) ≡ replicate n 0
take_zeros zero m h = refl
take_zeros (suc n) zero h = absurd (omega arith)
take_zeros (suc n) (suc m) h = ap (λ l. 0 ∷ l) (take_zeros n m (omega arith))

-- ---- a code, and what stands behind it

code_first : (bytes : List ℕ) → 1 ≤ length bytes → get_or bytes 0 0 ∷ take (length bytes - 1) (drop 1 bytes) ≡ bytes
code_first [] h = absurd (omega arith)
code_first (b ∷ bs) h =
    let e : length (b ∷ bs) - 1 ≡ length bs = omega arith in
    ap (λ l. b ∷ l) (ap (λ n. take n bs) e ∙ take-length bs)

-- ---- a part that comes back at the front of its list

front_back : (n : ℕ) (part rest : List ℕ) → length part ≡ n → take n (part ++ rest) ≡ part
front_back n part rest e = ap (λ m. take m (part ++ rest)) (sym e) ∙ take-append_seam part rest

length_back : (n : ℕ) (part l : List ℕ) → length part ≡ n → n ≤ length l → length (part ++ drop n l) ≡ length l
length_back n part l e h = omega (arith, e, length-append part (drop n l), length-drop n l)

-- ---- no byte

module _ (j : Job) (b : Buffers) (kept : JobKept j b) (ended : Bool) (out : List ℕ) (at : ℕ) (out' : List ℕ) where
  pub nothing_there : (bytes : List ℕ) → length bytes ≡ 0 → (a : Advance) → Stays ended out at out' a → JobAdvances ended j b bytes out at out' (record { job = j; advance = a }) b
  nothing_there [] e a s = record { advances = stays (stage_of j b) [] out at out' a (omega arith) ended s (no_byte (stage_of j b)) (none_left (stage_of j b)); kept = kept }
  nothing_there (x ∷ xs) e a s = absurd (omega arith)

  -- ---- 01

  module _ (first : j.stage ≡ stages.Beginning) (bytes : List ℕ) where
    at_beginning : stage_of j b ≡ beginning
    at_beginning = ap (λ s. stage_at s (supplied_of j b) (held_by j b)) first

    -- no target, nothing booked
    unread : KeptAt stages.Beginning j b
    unread = subst (λ s. KeptAt s j b) first kept.at_stage

    begins : (r : Result Settings Advance) → Begins ended bytes out at out' r → JobAdvances ended j b bytes out at out' (begun_job at j r) b
    begins (Err a) t = record { advances = subst (λ s. Advances ended s bytes out at out' a s) (sym at_beginning) t; kept = kept }
    begins (Ok s) t =
        record {
          advances = rw (at_beginning, unread.0) t;
          kept = record { supply = kept.supply; ranked = kept.ranked; keys = kept.keys; ranks = kept.ranks; positions = kept.positions; placements = kept.placements; singles = kept.singles; multi = kept.multi; at_stage = (refl, unread.1) };
        }

    -- with its code in front
    pub first_step : 1 ≤ length bytes → (x : Result Settings Advance) → Begins ended (get_or bytes 0 0 ∷ take (length bytes - 1) (drop 1 bytes)) out at out' x → (r : Advanced) → r ≡ begun_job at j x → JobAdvances ended j b bytes out at out' r b
    first_step some x t r e = subst (λ y. JobAdvances ended j b bytes out at out' y b) (sym e) (begins x (subst (λ l. Begins ended l out at out' x) (code_first bytes some) t))

  -- ---- 02

  module _ (second : j.stage ≡ stages.Supplying) (bytes : List ℕ) where
    abbrev s : Settings
    s = j.state.settings

    at_supplying : stage_of j b ≡ supplying s (supplied_of j b)
    at_supplying = ap (λ x. stage_at x (supplied_of j b) (held_by j b)) second

    unbooked : KeptAt stages.Supplying j b
    unbooked = subst (λ x. KeptAt x j b) second kept.at_stage

    supplies : (r : Supplied) (is ies bs bes ms : List ℕ) → SupplyKept r.supply is ies bs bes ms
        → SupplyTold ended (supplied_of j b) bytes out at out' r (supplied_in r.supply is ies bs bes ms)
        → JobAdvances ended j b bytes out at out' (record { job = record { stage = j.stage; supply = r.supply; indexed = j.indexed; state = j.state }; advance = r.advance })
        (buffers_of is ies bs bes ms b.ranked b.keys b.ranks b.positions b.placements b.singles b.multi)
    supplies r is ies bs bes ms room t =
        record {
          advances = rw second (t s);
          kept = record { supply = room; ranked = kept.ranked; keys = kept.keys; ranks = kept.ranks; positions = kept.positions; placements = kept.placements; singles = kept.singles; multi = kept.multi; at_stage = rw second unbooked };
        }

    pub supply_step : 1 ≤ length bytes → get_or bytes 0 0 ≡ 2 → (r : Supplied) (is ies bs bes ms : List ℕ) → SupplyKept r.supply is ies bs bes ms
        → SupplyTold ended (supplied_of j b) (2 ∷ take (length bytes - 1) (drop 1 bytes)) out at out' r (supplied_in r.supply is ies bs bes ms)
        → JobAdvances ended j b bytes out at out' (record { job = record { stage = j.stage; supply = r.supply; indexed = j.indexed; state = j.state }; advance = r.advance })
        (buffers_of is ies bs bes ms b.ranked b.keys b.ranks b.positions b.placements b.singles b.multi)
    supply_step some two r is ies bs bes ms room t =
        let e : 2 ∷ take (length bytes - 1) (drop 1 bytes) ≡ bytes = ap (λ x. x ∷ take (length bytes - 1) (drop 1 bytes)) (sym two) ∙ code_first bytes some in
        supplies r is ies bs bes ms room (subst (λ l. SupplyTold ended (supplied_of j b) l out at out' r (supplied_in r.supply is ies bs bes ms)) e t)

    -- ---- the opening

    abbrev c : Catalogue
    c = supplied_of j b

    abbrev n : ℕ
    n = j.supply.targets

    pub open_room : JobRoom b.ranked b.keys b.ranks b.positions c.bases
    open_room =
        let l = length-take-le j.supply.bases b.bases (omega (arith, kept.supply.bases, kept.supply.sequences)) in
        record { places = kept.ranked; keys = omega (arith, l, kept.supply.bases, kept.keys); ranks = omega (arith, l, kept.supply.bases, kept.ranks); positions = omega (arith, l, kept.supply.bases, kept.positions) }

    count_is : length (targets c) ≡ n
    count_is =
        let a = length_cut 0 c.identifier_ends c.identifiers in
        let d = length_cut 0 c.base_ends c.bases in
        let e = length-take-le n b.identifier_ends (omega (arith, kept.supply.targets, kept.supply.identifier_ends)) in
        let f = length-take-le n b.base_ends (omega (arith, kept.supply.targets, kept.supply.base_ends)) in
        let g = length-take-le n b.marks (omega (arith, kept.supply.targets, kept.supply.marks)) in
        targets_count 0 (names c) (sequences c) c.marks (omega (arith, a, d, e, f)) (omega (arith, a, e, g)) ∙ g

    -- nothing is booked
    counters_started : counters_of (take n b.placements) (take n b.singles) (take n b.multi) ≡ (started c s).counters
    counters_started = λ i. record { placements = front b.placements (ap (λ k. k.placements) unbooked.1) i; singles = front b.singles (ap (λ k. k.singles) unbooked.1) i; multi = front b.multi (ap (λ k. k.multi) unbooked.1) i }
      where
        front : (l : List ℕ) → l ≡ replicate max_stream_targets 0 → take n l ≡ replicate (length (targets c)) 0
        front l e = ap (take n) e ∙ take_zeros n max_stream_targets kept.supply.targets ∙ ap (λ m. replicate m 0) (sym count_is)

    held_started : held_by j b ≡ started c s
    held_started = λ i. record { state = unbooked.0 i; counters = counters_started i }

    opens : (code : ℕ) (rest : List ℕ) (r : Result Indexed Advance) (ranked ks rs os : List ℕ) → OpensAt code c s (counters_of (take n b.placements) (take n b.singles) (take n b.multi)) out at out' r ranked ks rs os
        → length ranked ≡ length b.ranked → length ks ≡ length b.keys → length rs ≡ length b.ranks → length os ≡ length b.positions
        → JobAdvances ended j b (code ∷ rest) out at out' (opened_job at j r) (buffers_of b.identifiers b.identifier_ends b.bases b.base_ends b.marks ranked ks rs os b.placements b.singles b.multi)
    opens code rest (Err a) ranked ks rs os t e f g i =
        record {
          advances = rw second (t counters_started ended rest);
          kept = record { supply = kept.supply; ranked = e ∙ kept.ranked; keys = f ∙ kept.keys; ranks = g ∙ kept.ranks; positions = i ∙ kept.positions; placements = kept.placements; singles = kept.singles; multi = kept.multi; at_stage = rw second unbooked };
        }
    opens code rest (Ok x) ranked ks rs os t e f g i =
        let w = t counters_started ended rest in
        record {
          advances = rw (second, held_started) w.0;
          kept = record { supply = kept.supply; ranked = e ∙ kept.ranked; keys = f ∙ kept.keys; ranks = g ∙ kept.ranks; positions = i ∙ kept.positions; placements = kept.placements; singles = kept.singles; multi = kept.multi; at_stage = (subst (Passes c) (sym held_started) w.2, w.1) };
        }

    pub opening_step : 1 ≤ length bytes → (x : Result Indexed Advance) (ranked ks rs os : List ℕ) → OpensAt (get_or bytes 0 0) c s (counters_of (take n b.placements) (take n b.singles) (take n b.multi)) out at out' x ranked ks rs os
        → length ranked ≡ length b.ranked → length ks ≡ length b.keys → length rs ≡ length b.ranks → length os ≡ length b.positions → (r : Advanced) → r ≡ opened_job at j x
        → JobAdvances ended j b bytes out at out' r (buffers_of b.identifiers b.identifier_ends b.bases b.base_ends b.marks ranked ks rs os b.placements b.singles b.multi)
    opening_step some x ranked ks rs os t e f g i r q =
        subst₂ (λ l y. JobAdvances ended j b l out at out' y (buffers_of b.identifiers b.identifier_ends b.bases b.base_ends b.marks ranked ks rs os b.placements b.singles b.multi)) (code_first bytes some) (sym q)
        (opens (get_or bytes 0 0) (take (length bytes - 1) (drop 1 bytes)) x ranked ks rs os t e f g i)

  -- ---- 03 and 05

  module _ (third : j.stage ≡ stages.Running) where
    abbrev d : Catalogue
    d = supplied_of j b

    abbrev held : Held
    held = held_by j b

    opened-before : KeptAt stages.Running j b
    opened-before = subst (λ x. KeptAt x j b) third kept.at_stage

    -- what a step of the run is lent
    pub lends : (entries : List ℕ) → length entries ≡ 4 * stream_entries
        → Runs d (take j.indexed.ranked b.ranked) (take j.indexed.postings b.keys) (take j.indexed.postings b.ranks) (take j.indexed.postings b.positions) held entries
    lends entries e =
        let w = opened-before in
        record {
          passes = w.0;
          few = omega (arith, kept.supply.targets, length-take-le j.supply.targets b.identifier_ends (omega (arith, kept.supply.targets, kept.supply.identifier_ends)));
          places = w.1.places;
          index = λ i. columns (w.1.keys i) (w.1.ranks i) (w.1.positions i);
          whole = e;
        }

    -- a front that is as long as it is counted lies within its list
    within : (m : ℕ) (l front : List ℕ) → take m l ≡ front → m ≡ length front → m ≤ length l
    within m l front e f = omega (arith, length-take m l, ap length e)

    pub ranks_within : j.indexed.ranked ≤ length b.ranked
    ranks_within = within j.indexed.ranked b.ranked _ opened-before.1.places opened-before.1.several

    keys_within : j.indexed.postings ≤ length b.keys
    keys_within = within j.indexed.postings b.keys _ opened-before.1.keys (opened-before.1.many ∙ sym (length-map (index audit_seed d) _))

    pub postings_within : (j.indexed.postings ≤ length b.keys) × (j.indexed.postings ≤ length b.ranks) × (j.indexed.postings ≤ length b.positions)
    postings_within = (keys_within, omega (arith, keys_within, kept.keys, kept.ranks), omega (arith, keys_within, kept.keys, kept.positions))

    -- a step of the run
    runs : (bytes : List ℕ) (r : RunStep) (ps ss ms ps' ss' ms' : List ℕ) → Ran ended d held bytes out at out' r (counters_of ps ss ms)
        → take j.supply.targets ps' ≡ ps → take j.supply.targets ss' ≡ ss → take j.supply.targets ms' ≡ ms
        → length ps' ≡ length b.placements → length ss' ≡ length b.singles → length ms' ≡ length b.multi
        → JobAdvances ended j b bytes out at out' (record { job = record { stage = j.stage; supply = j.supply; indexed = j.indexed; state = r.state }; advance = r.advance })
        (buffers_of b.identifiers b.identifier_ends b.bases b.base_ends b.marks b.ranked b.keys b.ranks b.positions ps' ss' ms')
    runs bytes r ps ss ms ps' ss' ms' ran e f g x y z =
        record {
          advances = rw (third, e, f, g) ran.advances;
          kept =
              record {
                supply = kept.supply;
                ranked = kept.ranked;
                keys = kept.keys;
                ranks = kept.ranks;
                positions = kept.positions;
                placements = x ∙ kept.placements;
                singles = y ∙ kept.singles;
                multi = z ∙ kept.multi;
                at_stage = rw third (rw (e, f, g) ran.still_passes, opened-before.1);
              };
        }

    -- each counter's part comes back at the front of its list
    pub run_step : (bytes : List ℕ) → 1 ≤ length bytes → (r : RunStep) (ps ss ms : List ℕ)
        → Ran ended d held (get_or bytes 0 0 ∷ take (length bytes - 1) (drop 1 bytes)) out at out' r (counters_of ps ss ms)
        → length ps ≡ j.supply.targets → length ss ≡ j.supply.targets → length ms ≡ j.supply.targets
        → JobAdvances ended j b bytes out at out' (record { job = record { stage = j.stage; supply = j.supply; indexed = j.indexed; state = r.state }; advance = r.advance })
        (buffers_of b.identifiers b.identifier_ends b.bases b.base_ends b.marks b.ranked b.keys b.ranks b.positions (ps ++ drop j.supply.targets b.placements) (ss ++ drop j.supply.targets b.singles) (ms ++ drop j.supply.targets b.multi))
    run_step bytes some r ps ss ms ran e f g =
        runs bytes r ps ss ms _ _ _ (subst (λ l. Ran ended d held l out at out' r (counters_of ps ss ms)) (code_first bytes some) ran)
        (front_back n ps _ e) (front_back n ss _ f) (front_back n ms _ g)
        (length_back n ps b.placements e (omega (arith, kept.supply.targets, kept.placements))) (length_back n ss b.singles f (omega (arith, kept.supply.targets, kept.singles))) (length_back n ms b.multi g (omega (arith, kept.supply.targets, kept.multi)))
      where
        n : ℕ
        n = j.supply.targets
