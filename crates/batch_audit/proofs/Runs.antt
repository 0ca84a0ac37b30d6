-- Where the opening's checks pass, they pass behind every call, and calls answer as in a catalogue that was tested.
use mathlib.Core.Path.{◌≡◌, refl, ap, ap₂, ◌∙◌}
use mathlib.Core.List.{List, [], ◌∷◌}
use Prim.Native.Nat.{ℕ}
use lib.ListN.{take, drop}
use Rattle.promises.specs.Refusal.{◌or_else◌, outcome, if_passed}
use Rattle.catalogue.specs.Catalogue.{Catalogue, supplied_places}
use Rattle.index_model.specs.Index.{mapped_sequences}
use Rattle.map_every_start.specs.Entries.{entry_count}
use Rattle.map_by_index.specs.Work.{Way}
use Rattle.audit_model.specs.Settings.{Held}
use Rattle.audit_model.specs.Opening.{IndexLent, way_of, opening_refusal}
use Rattle.audit_model.specs.Fragment.{Fragment, entries_left, tested_refusal, fragment_refusal, fragment_rows, fragment_accepted, fragment_written}
use Rattle.audit_model.specs.Run.{Call, Answer, answer_to, next, answers, after}
use Rattle.batch_lists.specs.Listed.{calls_of}
use Rattle.batch_fragments.specs.Listed.{tested_answer, tested_next, tested_answers, tested_after}
use Rattle.batch_fragments.proofs.Shares.{Alike, next_alike}

module _ (q offset : ℕ) (c : Catalogue) (lent : IndexLent) where
  abbrev Passes : Held → Type 0
  Passes h = opening_refusal q offset c lent h.state.settings h.counters ≡ 0

  abbrev ss : List (List ℕ)
  ss = mapped_sequences c

  abbrev way : Way
  way = way_of q lent

  -- the checks look at settings, and at how many counters there are
  passes_alike : (h h' : Held) → Alike h h' → Passes h → Passes h'
  unfolding opening_refusal
  passes_alike h h' a p = rw (a.settings, a.placements, a.singles, a.multi) p

  own : (h : Held) → Passes h → (f : Fragment) (entries : ℕ) → fragment_refusal q offset c lent h f entries ≡ tested_refusal offset ss (supplied_places c) h f entries
  unfolding fragment_refusal
  own h p f entries = ap (λ n. n or_else tested_refusal offset ss (supplied_places c) h f entries) p

  module _ (h : Held) (p : Passes h) (f : Fragment) (es : List ℕ) where
    abbrev call : Call
    call = record { lent = lent; fragment = f; entries = es }

    answer_same : answer_to q offset c h call ≡ tested_answer offset ss way (supplied_places c) h call
    answer_same =
        ap {B = Answer} (λ n. record { rows = outcome n (fragment_rows q offset c lent h f); entries = entries_left n (fragment_written offset c h f es) es }) (own h p f (entry_count es))

    next_same : next q offset c h call ≡ tested_next offset ss way (supplied_places c) h call
    next_same = ap (λ n. if_passed n (fragment_accepted offset c h f) h) (own h p f (entry_count es))

  module _ (width : ℕ) where
    pub after_same : (h : Held) → Passes h → (es : List ℕ) (fs : List Fragment) → after q offset c h (calls_of lent width es fs) ≡ tested_after offset ss way (supplied_places c) h (calls_of lent width es fs)
    after_same h p es [] = refl
    after_same h p es (f ∷ fs) =
        ap (λ z. after q offset c z (calls_of lent width (drop width es) fs)) (next_same h p f (take width es))
        ∙ after_same (tested_next offset ss way (supplied_places c) h (call h p f (take width es))) (passes_alike h _ (next_alike offset ss way (supplied_places c) h (call h p f (take width es))) p) (drop width es) fs

    pub answers_same : (h : Held) → Passes h → (es : List ℕ) (fs : List Fragment) → answers q offset c h (calls_of lent width es fs) ≡ tested_answers offset ss way (supplied_places c) h (calls_of lent width es fs)
    answers_same h p es [] = refl
    answers_same h p es (f ∷ fs) =
        ap₂ {C = List Answer} (λ a z. a ∷ answers q offset c z (calls_of lent width (drop width es) fs)) (answer_same h p f (take width es)) (next_same h p f (take width es))
        ∙ ap {B = List Answer} (λ rest. tested_answer offset ss way (supplied_places c) h (call h p f (take width es)) ∷ rest)
        (answers_same (tested_next offset ss way (supplied_places c) h (call h p f (take width es))) (passes_alike h _ (next_alike offset ss way (supplied_places c) h (call h p f (take width es))) p) (drop width es) fs)
