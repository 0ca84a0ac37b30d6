-- What the exported calls return and write, from what the calls behind them answer.
use Rattle.std.specs.Prelude.{Result}
use Rattle.promises.specs.declared.refusal.Refusal.{Refusal}
use mathlib.Core.Path.{◌≡◌, refl, sym, ap, ◌∙◌}
use mathlib.Core.List.{List}
use Prim.Native.Nat.{ℕ, ◌<◌, ◌≤◌}
use lib.ListN.{length}
use borrow.Author.Tests.{le-leb, lt-leb}
use Rattle.promises.specs.Refusal.{Outcome, number_of, outcome}
use Rattle.promises.proofs.Refusing.{number_is}
use Rattle.catalogue.specs.Catalogue.{Catalogue}
use Rattle.buffers.specs.Placed.{placed}
use Rattle.index_seeds.specs.Seeds.{keys_of, ranks_of, positions_of}
use Rattle.index_model.specs.Index.{index, plan_refusal, build_refusal}
use Rattle.index_plan.specs.Answers.{plan_outcome, planned}
use Rattle.index_calls.specs.Answers.{built_outcome, entries, left_in, BuiltAs}
use Rattle.map_every_start.specs.Entries.{entry_count}
use Rattle.map_answers.specs.Answer.{answer_of}
use Rattle.indexed_mapper.specs.Map.{map_refusal, MapsTo}
use Rattle.batch_rows.specs.Rows.{row_numbers}
use Rattle.c_replies.specs.Replies.{plan_numbers, build_numbers, Put}
use Rattle.jekaumeo.specs.Exports.{ExportsPlan, ExportsBuild, ExportsMap}
use Rattle.map_answers.specs.declared.answer.Mapping.{Mapping}
use Rattle.index_plan.specs.declared.Counts.{Counts}

-- the outcome of a call behind it, as it is written
module _ {A : Type 0} (numbers : Outcome A → List ℕ) (refusal : ℕ) (a : A) (o : Outcome A) (e : o ≡ outcome refusal a) (r : ℕ) (answer answer' : List ℕ) (w : Put numbers o r answer answer') where
  put_number : r ≡ refusal
  put_number = w.number ∙ ap number_of e ∙ number_is refusal a

  put_numbers : answer' ≡ placed 0 (numbers (outcome refusal a)) answer
  put_numbers = w.written ∙ ap (λ x. placed 0 (numbers x) answer) e

-- ---- plan

module _ (q : ℕ) (c : Catalogue) (answer : List ℕ) where
  pub plan_short : length answer < 3 → ExportsPlan q c 26 answer answer
  unfolding ExportsPlan
  plan_short h = rw (lt-leb 3 (length answer) h) (record { number = refl; numbers = refl })

  pub plan_room : 3 ≤ length answer → (p : Result Counts Refusal) → plan_outcome p ≡ planned q c → (r : ℕ) (answer' : List ℕ) → Put plan_numbers (plan_outcome p) r answer answer' → ExportsPlan q c r answer answer'
  unfolding ExportsPlan
  plan_room h p e r answer' w = rw (le-leb 3 (length answer) h) (record { number = put_number plan_numbers _ _ _ e r answer answer' w; numbers = put_numbers plan_numbers (plan_refusal q c) _ _ e r answer answer' w })

-- ---- build

module _ (q : ℕ) (c : Catalogue) (answer ks rs os : List ℕ) where
  pub build_short : length answer < 2 → ExportsBuild q c 26 answer ks rs os answer ks rs os
  unfolding ExportsBuild
  build_short h = rw (lt-leb 2 (length answer) h) (record { number = refl; numbers = refl; keys = refl; ranks = refl; positions = refl })

  pub build_room : 2 ≤ length answer → (b : Result ℕ Refusal) (ks' rs' os' : List ℕ) → BuiltAs q c b ks rs os ks' rs' os' → (r : ℕ) (answer' : List ℕ) → Put build_numbers (built_outcome b) r answer answer' → ExportsBuild q c r answer ks rs os answer' ks' rs' os'
  unfolding ExportsBuild
  build_room h b ks' rs' os' a r answer' w =
      rw (le-leb 2 (length answer) h)
      (record {
        number = same;
        numbers = put_numbers build_numbers (build_refusal q c (entries ks rs os)) (length (index q c)) _ a.answer r answer answer' w;
        keys = a.keys ∙ ap (λ n. left_in n (keys_of (index q c)) ks) (sym same);
        ranks = a.ranks ∙ ap (λ n. left_in n (ranks_of (index q c)) rs) (sym same);
        positions = a.positions ∙ ap (λ n. left_in n (positions_of (index q c)) os) (sym same);
      })
    where
      same : r ≡ build_refusal q c (entries ks rs os)
      same = put_number build_numbers (build_refusal q c (entries ks rs os)) (length (index q c)) _ a.answer r answer answer' w

-- ---- map

module _ (q : ℕ) (c : Catalogue) (ks rs os read : List ℕ) (limit : ℕ) (answer buffer : List ℕ) where
  pub map_short : length answer < 8 → ExportsMap q c ks rs os read limit 26 answer buffer answer buffer
  unfolding ExportsMap
  map_short h = rw (lt-leb 8 (length answer) h) (record { number = refl; numbers = refl; entries = refl })

  pub map_room : 8 ≤ length answer → (m : Result Mapping Refusal) (buffer' : List ℕ) → MapsTo q c ks rs os read limit m buffer buffer' → (r : ℕ) (answer' : List ℕ) → Put row_numbers (answer_of m) r answer answer' → ExportsMap q c ks rs os read limit r answer buffer answer' buffer'
  unfolding ExportsMap
  map_room h m buffer' a r answer' w =
      rw (le-leb 8 (length answer) h)
      (record {
        number = put_number row_numbers (map_refusal q c ks rs os read limit (entry_count buffer)) _ _ a.answer r answer answer' w;
        numbers = put_numbers row_numbers (map_refusal q c ks rs os read limit (entry_count buffer)) _ _ a.answer r answer answer' w;
        entries = a.entries;
      })
