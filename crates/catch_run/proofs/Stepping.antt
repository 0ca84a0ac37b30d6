-- Each step of a job that was opened, as its function has it.
use Rattle.std.specs.Prelude.{Result, Ok, Err}
use Rattle.catch_commands.specs.declared.Unread.{Unread}
use Rattle.catch_commands.specs.declared.Unread.TheVariants as unread
use Rattle.promises.specs.declared.refusal.Refusal.{Refusal}
use mathlib.Core.Path.{◌≡◌, refl, sym, ap, subst, subst₂, ◌∙◌}
use mathlib.Core.Bool.{Bool, true, false}
use mathlib.Core.List.{List, [], ◌∷◌}
use Prim.Native.Nat.{ℕ, suc, ◌+◌, ◌≤◌, ◌<◌}
use native.Mathlib.Omega.{arith}
use lib.ListN.{length}
use Rattle.promises.specs.Refusal.{accepted}
use Rattle.catalogue.specs.Catalogue.{Catalogue, names}
use Rattle.catalogue.proofs.Checks.{bounded}
use Rattle.index_model.specs.Index.{ranked_sequences}
use Rattle.map_answers.specs.Answer.{Row}
use Rattle.audit_ledger.specs.Booking.{Counters}
use Rattle.audit_model.specs.declared.calls.FragmentRows.{FragmentRows}
use Rattle.audit_model.specs.declared.calls.FragmentRows.TheVariants as fragments
use Rattle.audit_model.specs.declared.calls.Finish.{Finish}
use Rattle.audit_model.specs.Settings.{Held, audit_seed, audit_offset}
use Rattle.audit_model.specs.Calls.{fragment_outcome, mapping_row, Audits}
use Rattle.catch_commands.specs.Commands.{fragment_in}
use Rattle.catch_commands.specs.Telling.{Short}
use Rattle.catch_text.specs.Writing.{AddsAtMost}
use Rattle.catch_lines.specs.Lines.{refusal_line}
use Rattle.catch_sheet_lines.specs.Lent.{sheet_room, TargetsLent}
use Rattle.audit_finish.specs.Tested.{FinishesTested}
use Rattle.catch_finish_lines.specs.Finish.{finish_lines}
use Rattle.catch_finish_lines.proofs.Finishing.{finish_told}
use Rattle.catch_fragments.specs.declared.FragmentHead.{FragmentHead}
use Rattle.catch_fragments.specs.Telling.{longest_fragment, FragmentTold}
use Rattle.catch_fragments.proofs.Longest.{fragment_longest}
use Rattle.catch_model.specs.Job.{lent_of, running}
use Rattle.catch_model.specs.Feeding.{Ends, by_bytes, MustWait, fragment_lacks, at_the_end}
use Rattle.catch_model.proofs.Steps.{fragment_wrong, fragment_short, run_other, bytes_behind}
use Rattle.catch_advance.specs.declared.Advance.{Advance}
use Rattle.catch_progress.specs.declared.Progress.{Progress}
use Rattle.catch_progress.specs.declared.Progress.TheVariants as progress
use Rattle.catch_advance.specs.Advancing.{step_room, Tells, Advances, Refuses, Waits, Stays}
use Rattle.catch_advance.proofs.Advancing.{ends_told, last_step, refuses, waits, stays}
use Rattle.catch_fragment.specs.declared.ToldFragment.{ToldFragment}
use Rattle.catch_fragment.specs.Told.{fragment_at, TellLent, TellsFragment}
use Rattle.catch_run.specs.declared.RunStep.{RunStep}
use Rattle.catch_run.specs.Running.{progress_of, Passes, Runs, Ran}
use Rattle.catch_run.proofs.Passing.{within_bounds, named, each_counted, lent_tested, lent-audited}
use Rattle.catch_run.proofs.Running.{lines, fragment_refuses, fragment_goes}

-- no bytes
pub none_there : (bytes : List ℕ) → length bytes ≡ 0 → bytes ≡ []
none_there [] e = refl
none_there (b ∷ bs) e = absurd (omega arith)

-- a code that is known
pub at_code : (c : Catalogue) (h : Held) (ended : Bool) (bytes out : List ℕ) (at : ℕ) (out' : List ℕ) (r : RunStep) (k : Counters) (code known : ℕ) → code ≡ known
    → Ran ended c h (known ∷ bytes) out at out' r k → Ran ended c h (code ∷ bytes) out at out' r k
at_code c h ended bytes out at out' r k code known e ran = subst (λ x. Ran ended c h (x ∷ bytes) out at out' r k) (sym e) ran

module _ (c : Catalogue) (ranked ks rs os : List ℕ) (h : Held) (entries : List ℕ) (lent : Runs c ranked ks rs os h entries) (ended : Bool) (bytes out : List ℕ) (at : ℕ) (out' : List ℕ) where
  -- ---- steps behind which nothing has changed

  -- E and a number
  ran_refused : (first : List ℕ) (number : ℕ) (a : Advance) → Refuses number out at out' a → Ends (running c h) first (refusal_line number) → Ran ended c h first out at out' (record { advance = a; state = h.state }) h.counters
  ran_refused first number a f e = record { advances = refuses (running c h) (running c h) first out at out' a ended number f e; still_passes = lent.passes }

  pub fragment_wrong_ran : FragmentTold bytes (Err unread.Wrong) → (a : Advance) → Refuses 20 out at out' a → Ran ended c h (3 ∷ bytes) out at out' (record { advance = a; state = h.state }) h.counters
  fragment_wrong_ran w a f = ran_refused (3 ∷ bytes) 20 a f (fragment_wrong c h bytes w)

  pub fragment_short_ran : FragmentTold bytes (Err unread.More) → (a : Advance) → Stays ended out at out' a → Ran ended c h (3 ∷ bytes) out at out' (record { advance = a; state = h.state }) h.counters
  fragment_short_ran w a s =
      record { advances = stays (running c h) (3 ∷ bytes) out at out' a (omega (arith, w.few)) ended s (fragment_lacks c h bytes w.ended) (fragment_short c h bytes w.ended); still_passes = lent.passes }

  -- neither 03 nor 05
  pub other_ran : (code : ℕ) → (code ≡ 3 → ⊥) → (code ≡ 5 → ⊥) → (a : Advance) → Refuses 20 out at out' a → Ran ended c h (code ∷ bytes) out at out' (record { advance = a; state = h.state }) h.counters
  other_ran code three five a f = ran_refused (code ∷ bytes) 20 a f (run_other c h bytes code three five)

  -- 05 with bytes behind it
  pub behind_ran : 0 < length bytes → (a : Advance) → Refuses 20 out at out' a → Ran ended c h (5 ∷ bytes) out at out' (record { advance = a; state = h.state }) h.counters
  behind_ran some a f = ran_refused (5 ∷ bytes) 20 a f (go bytes some)
    where
      go : (bs : List ℕ) → 0 < length bs → Ends (running c h) (5 ∷ bs) (refusal_line 20)
      go [] n = absurd (omega arith)
      go (b ∷ bs) n = bytes_behind c h bs b

  -- 05, and it is not known yet whether bytes are behind it
  pub wait_ran : ended ≡ false → bytes ≡ [] → (a : Advance) → Waits at a → out' ≡ out → Ran ended c h (5 ∷ bytes) out at out' (record { advance = a; state = h.state }) h.counters
  wait_ran e none a w same =
      record {
        advances =
            subst (λ b. Advances b (running c h) (5 ∷ bytes) out at out' a (running c h)) (sym e)
            (waits (running c h) (5 ∷ bytes) out at out' a (omega (arith, ap length none)) (subst (λ l. MustWait (running c h) (5 ∷ l)) (sym none) (at_the_end c h)) w same);
        still_passes = lent.passes;
      }

  -- 05 and the end of the stream
  pub finish_lent : at + step_room ≤ length out
      → TargetsLent c.identifiers c.identifier_ends c.marks h.counters.placements h.counters.singles h.counters.multi (length c.identifier_ends) × (at + sheet_room (length c.identifier_ends) ≤ length out)
  finish_lent room =
      let k = each_counted c h lent.passes in
      let m = (bounded c (within_bounds c h lent.passes)).marked in
      (record { named = named c h lent.passes; ended = omega arith; marked = omega (arith, m); placed = omega (arith, k.0); single = omega (arith, k.1); several = omega (arith, k.2) }, omega (arith, lent.few))

  pub finish_ran : ended ≡ true → bytes ≡ [] → (r : Finish) → FinishesTested h r → (end : ℕ)
      → AddsAtMost (sheet_room (length c.identifier_ends)) (finish_lines r h.counters (names c) c.marks (length c.identifier_ends)) out at out' end
      → Ran ended c h (5 ∷ bytes) out at out' (record { advance = record { at = end; progress = progress.Ended }; state = h.state }) h.counters
  finish_ran e none r finishes end adds =
      let a : Advance = record { at = end; progress = progress.Ended } in
      let is = finish_told c (within_bounds c h lent.passes) h lent.passes r finishes in
      let told : Advances true (running c h) (5 ∷ []) out at out' a (running c h) = last_step (running c h) (running c h) (5 ∷ []) out at out' a true (sheet_room (length c.identifier_ends)) _ (omega (arith, lent.few)) adds refl (sym is) in
      record { advances = subst₂ (λ b bs. Advances b (running c h) (5 ∷ bs) out at out' a (running c h)) (sym e) (sym none) told; still_passes = lent.passes }

  -- ---- a fragment

  module _ (head : FragmentHead) (read : FragmentTold bytes (Ok head)) where
    -- its bytes can be counted
    pub end_most : head.end ≤ longest_fragment
    end_most = fragment_longest bytes (fragment_at bytes head) head.end read.0

    pub tell_lent : at + step_room ≤ length out
        → TellLent c.bases c.base_ends ranked ks rs os c.identifiers c.identifier_ends bytes head h.state.settings h.counters entries out at
    tell_lent room =
        record {
          tested = lent_tested c ranked ks rs os h entries lent;
          named = named c h lent.passes;
          each = (each_counted c h lent.passes).0;
          first = read.1;
          second = read.2;
          whole = lent.whole;
          room = room;
        }

    module _ (t : ToldFragment) (k : Counters) (entries' : List ℕ) (tells : TellsFragment (ranked_sequences c.bases c.base_ends ranked) ranked (names c) h bytes head t k entries entries' out at out') where
      abbrev after : Held
      after = record { state = t.audit.state; counters = k }

      audits : Audits audit_seed audit_offset c (lent_of c) h (fragment_at bytes head) entries t.audit k entries'
      audits = lent-audited c ranked ks rs os h entries lent (fragment_at bytes head) t.audit k entries' tells.audited

      abbrev text : List ℕ
      text = lines c ranked ks rs os h entries lent bytes head read.0 t.audit k entries' audits

      ran_accepted : (rows : List Row) → fragment_outcome t.audit.answer ≡ accepted rows → (p : Progress) → p ≡ progress.Went (suc head.end) → Ran ended c h (3 ∷ bytes) out at out' (record { advance = record { at = t.end; progress = p }; state = t.audit.state }) k
      ran_accepted rows f p g =
          let w = fragment_goes c ranked ks rs os h entries lent bytes head read.0 t.audit k entries' audits rows f in
          record {
            advances = record { text = text; adds = tells.adds; told = subst (λ x. Tells ended (running c h) (3 ∷ bytes) x text (running c after)) (sym g) (record { within = omega (arith, read.0.within); further = by_bytes _ _ _ (omega arith) (omega arith); goes = w.0 }) };
            still_passes = w.1;
          }

      pub fragment_ran : (n : ℕ) → n ≡ 1 + head.end → (p : Progress) → p ≡ progress_of t.audit.answer n → Ran ended c h (3 ∷ bytes) out at out' (record { advance = record { at = t.end; progress = p }; state = t.audit.state }) k
      fragment_ran n m p q = go t.audit.answer refl
        where
          size : n ≡ suc head.end
          size = omega (arith, m)

          go : (x : Result FragmentRows Refusal) → t.audit.answer ≡ x → Ran ended c h (3 ∷ bytes) out at out' (record { advance = record { at = t.end; progress = p }; state = t.audit.state }) k
          go (Ok (fragments.Single x)) a = ran_accepted (mapping_row x ∷ []) (ap fragment_outcome a) p (q ∙ ap (λ y. progress_of y n) a ∙ ap progress.Went size)
          go (Ok (fragments.Paired x)) a = ran_accepted (mapping_row x.first ∷ mapping_row x.second ∷ []) (ap fragment_outcome a) p (q ∙ ap (λ y. progress_of y n) a ∙ ap progress.Went size)
          go (Err e) a =
              let w = fragment_refuses c ranked ks rs os h entries lent bytes head read.0 t.audit k entries' audits e a in
              let ends : Ends (running c h) (3 ∷ bytes) text = rw a w.0 in
              record {
                advances = record { text = text; adds = tells.adds; told = subst (λ x. Tells ended (running c h) (3 ∷ bytes) x text (running c after)) (sym (q ∙ ap (λ y. progress_of y n) a)) (ends_told (running c h) (running c after) (3 ∷ bytes) ended text ends) };
                still_passes = subst (Passes c) (sym w.1) lent.passes;
              }
