-- What a run books: its books are the history booked, and every read of the history can be booked.
use mathlib.Core.Path.{◌≡◌, refl, sym, subst, ◌∙◌}
use mathlib.Core.Bool.{Bool, true, false, cond, ◌&&◌}
use mathlib.Core.Logic.{◌⊎◌, inl, inr}
use mathlib.Core.List.{List, [], ◌∷◌}
use Prim.Native.Nat.{ℕ, zero, suc, ◌<◌}
use native.Mathlib.Omega.{arith}
use lib.ListN.{length, length-map}
use lib.Dec.{ltb}
use Rattle.promises.specs.Refusal.{if_passed}
use Rattle.lists.specs.Member.{◌∈◌}
use Rattle.lists.proofs.Cases.{by_test}
use Rattle.lists.proofs.Member.{map-∈, append-∈}
use Rattle.bases.specs.Eligibility.{eligibility}
use Rattle.catalogue.specs.Catalogue.{Catalogue, mapped, supplied_places}
use Rattle.index_model.specs.Index.{mapped_sequences}
use Rattle.map_places.specs.Place.{Place, groups}
use Rattle.map_places.proofs.Placing.{groups-∈}
use Rattle.map_every_start.specs.Entries.{entry_count}
use Rattle.map_answers.specs.Answer.{state_of, mapped_state}
use Rattle.audit_ledger.specs.Booking.{Booked}
use Rattle.audit_ledger.specs.Counting.{Bookable}
use Rattle.audit_model.specs.declared.settings.MateRole.TheVariants as roles
use Rattle.audit_model.specs.declared.settings.Settings.{Settings}
use Rattle.audit_model.specs.Settings.{Held, states_shown}
use Rattle.audit_model.specs.Observing.{MateRead, is_eligible, mate_booked}
use Rattle.audit_model.specs.Fragment.{fragment_refusal, fragment_booked, fragment_accepted}
use Rattle.audit_model.proofs.Booked.{few_roles}
use Rattle.audit_theorems.proofs.Turned.{listed-∈}
use Rattle.audit_model.specs.Run.{Call, next, books, after, history}

-- ---- one read

shown_state : (n : ℕ) → state_of n ∈ states_shown true
shown_state zero = inr (inr (inl refl))
shown_state (suc zero) = inr (inr (inr (inl refl)))
shown_state (suc (suc n)) = inr (inr (inr (inr (inl refl))))

-- such a state is one of six
pub shown_few : (b : Bool) (n : ℕ) → n ∈ states_shown b → n < 6
shown_few true n (inl e) = omega arith
shown_few true n (inr (inl e)) = omega arith
shown_few true n (inr (inr (inl e))) = omega arith
shown_few true n (inr (inr (inr (inl e)))) = omega arith
shown_few true n (inr (inr (inr (inr (inl e))))) = omega arith
shown_few false n (inr x'') = elim x'' [ ]
shown_few true n (inr (inr (inr (inr (inr x7))))) = elim x7 [ ]
shown_few false n (inl e) = omega arith

module _ (offset : ℕ) (s : Settings) (ss : List (List ℕ)) (r : MateRead) where
  -- its state is one that the sheet shows
  pub state_shown : (mate_booked offset s ss r).state ∈ states_shown s.remap
  state_shown = go s.remap (is_eligible (eligibility s.floor offset r.read))
    where
      gs : List Place
      gs = groups ss r.read.bases

      go : (remap fit : Bool) → cond (remap && fit) (mapped_state s.limit (length gs)) (cond remap 1 0) ∈ states_shown remap
      go true true = by_test (ltb s.limit (length gs)) (λ u. rw u (inr (inl refl))) (λ u. rw u (shown_state (length gs)))
      go true false = inl refl
      go false fit = inl refl

  -- it can be booked
  read_bookable : Bookable (length ss) (mate_booked offset s ss r)
  read_bookable =
      record {
        role = few_roles r.role;
        state = shown_few s.remap _ state_shown;
        ranked = λ p m. (groups-∈ ss r.read.bases p (listed-∈ offset s ss r p m)).0.ranked;
      }

-- in the targets of a catalogue
pub mate_bookable : (c : Catalogue) (offset : ℕ) (s : Settings) (r : MateRead) → Bookable (length (supplied_places c)) (mate_booked offset s (mapped_sequences c) r)
mate_bookable c offset s r =
    subst (λ n. Bookable n (mate_booked offset s (mapped_sequences c) r)) (length-map (mapped c) _ ∙ sym (length-map (mapped c) _)) (read_bookable offset s (mapped_sequences c) r)

-- ---- runs

module _ (q offset : ℕ) (c : Catalogue) where
  -- a call leaves the settings
  pub settings_stay : (h : Held) (x : Call) → (next q offset c h x).state.settings ≡ h.state.settings
  settings_stay h x = go (fragment_refusal q offset c x.lent h x.fragment (entry_count x.entries))
    where
      go : (n : ℕ) → (if_passed n (fragment_accepted offset c h x.fragment) h).state.settings ≡ h.state.settings
      go zero = refl
      go (suc n) = refl

  pub settings_after : (h : Held) (xs : List Call) → (after q offset c h xs).state.settings ≡ h.state.settings
  settings_after h [] = refl
  settings_after h (x ∷ xs) = settings_after (next q offset c h x) xs ∙ settings_stay h x

  -- what holds of every read that is observed under the settings holds of the history
  pub history_all : (s : Settings) (P : Booked → Type 0) → ((r : MateRead) → P (mate_booked offset s (mapped_sequences c) r))
      → (h : Held) → h.state.settings ≡ s → (xs : List Call) (b : Booked) → b ∈ history q offset c h xs → P b
  history_all s P all h e [] b m = elim m [ ]
  history_all s P all h e (x ∷ xs) b m =
      split (history_all s P all (next q offset c h x) (settings_stay h x ∙ e) xs b) (append-∈ b (books q offset c h x) (history q offset c (next q offset c h x) xs) m)
    where
      here : (n : ℕ) → b ∈ if_passed n (fragment_booked offset c h x.fragment) [] → P b
      here (suc _) i = elim i [ ]
      here zero i =
          let r = map-∈ (mate_booked offset h.state.settings (mapped_sequences c)) b x.fragment.reads i in
          subst P (sym r.2) (subst (λ (u : Settings). P (mate_booked offset u (mapped_sequences c) r.0)) (sym e) (all r.0))

      split : (b ∈ history q offset c (next q offset c h x) xs → P b) → (b ∈ books q offset c h x) ⊎ (b ∈ history q offset c (next q offset c h x) xs) → P b
      split later (inl i) = here (fragment_refusal q offset c x.lent h x.fragment (entry_count x.entries)) i
      split later (inr i) = later i
