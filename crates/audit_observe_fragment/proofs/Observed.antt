-- The reads of a checked fragment observed: their rows and entries, what is posted of them, and refusal 17.
use Rattle.std.specs.Prelude.{Result, Ok, Err, Option, Some, None, IsSome, IsNone}
use Rattle.promises.specs.declared.refusal.Refusal.{Refusal}
use mathlib.Core.Path.{◌≡◌, refl, sym, ap, subst, ◌∙◌}
use Rattle.promises.specs.declared.refusal.Refusal.TheVariants as refusals
use mathlib.Core.Bool.{Bool, true, false, cond, true≢false}
use mathlib.Core.List.{List, [], ◌∷◌, map, head-eq_of_cons-eq, tail-eq_of_cons-eq}
use Prim.Native.Nat.{ℕ, suc, ◌+◌, ◌*◌, ◌≤◌, ◌<◌, ◌/◌}
use native.Mathlib.Omega.{arith}
use native.Mathlib.Nat.{mul-suc}
use lib.ListN.{length, get_or, drop, length-map}
use Rattle.lists.specs.Cut.{window, cut}
use Rattle.promises.specs.Refusal.{refusal_number, ◌or_else◌, outcome}
use Rattle.promises.proofs.Refusing.{first_stands, none_first, none_second, outcome_accepted, outcome_number}
use Rattle.buffers.specs.Placed.{placed}
use Rattle.map_every_start.specs.Entries.{entry_count, cleared}
use Rattle.map_by_index.specs.Work.{Way}
use Rattle.map_answers.specs.Answer.{state_number}
use Rattle.map_answers.specs.Bounds.{limit_right}
use Rattle.map_answers.specs.declared.answer.ReadState.{ReadState}
use Rattle.map_answers.specs.declared.answer.ReadState.TheVariants as states
use Rattle.map_answers.specs.declared.answer.Mapping.{Mapping}
use Rattle.map_answers.proofs.Concluding.{length-cleared}
use Rattle.audit_ledger.specs.Booking.{Counters, Books, booked_all, countable}
use Rattle.audit_ledger.specs.Counting.{Ranked}
use Rattle.audit_ledger.specs.declared.Ledger.{Ledger}
use Rattle.std.specs.Option.{is_some}
use Rattle.audit_book_fragment.specs.Books.{posted_all, books_small, CountersLent, Postable, FragmentPostable}
use Rattle.audit_model.specs.declared.calls.FragmentRows.{FragmentRows}
use Rattle.audit_model.specs.declared.calls.FragmentRows.TheVariants as fragments
use Rattle.audit_model.specs.declared.calls.Mates.{Mates}
use Rattle.audit_model.specs.declared.settings.AuditInputMode.{AuditInputMode}
use Rattle.audit_model.specs.declared.settings.AuditInputMode.TheVariants as modes
use Rattle.index_model.specs.Index.{ranked_sequences}
use Rattle.audit_model.specs.declared.settings.MateRole.{MateRole}
use Rattle.audit_model.specs.Settings.{role_number}
use Rattle.audit_model.specs.declared.settings.Settings.{Settings}
use Rattle.audit_model.specs.Observing.{Observed, observed_room, observed_entries, observed_row, observed_booked}
use Rattle.audit_model.specs.Fragment.{first_refusal, share_of, in_parts, entries_left}
use Rattle.audit_model.specs.Calls.{mapping_row, fragment_outcome}
use Rattle.audit_model.proofs.Booked.{few_roles}
use Rattle.audit_model.proofs.Parts.{Short, InParts, length_parts, parts_placed}
use Rattle.audit_read_checks.specs.Checks.{by_mode}
use Rattle.audit_read_checks.specs.declared.SearchedReads.{SearchedReads}
use Rattle.audit_observe_read.specs.Observed.{way_if, as_observed}
use Rattle.audit_observe_reads.specs.Reads.{observed_reads, rooms_refusal, ReadsObserved}
use Rattle.audit_observe_reads.proofs.Filled.{Within, within_placed, within_cleared, within_zeros}
use Rattle.audit_book_answer.specs.Answers.{tally_of, answer_reads, AnswerPostable, AnswerPosted}
use Rattle.audit_book_answer.proofs.Posted.{AllPost, posted_all_lem, books_countable}
use Rattle.audit_observe_fragment.specs.Observe.{observed_refusal, RankedLent, RankedObserved}
use Rattle.audit_observe_fragment.proofs.Seeing.{observed_short, observed_posts, observed_postable}

abbrev is_refused : Result FragmentRows Refusal → Bool
is_refused (Err n) = true
is_refused (Ok (fragments.Single m)) = false
is_refused (Ok (fragments.Paired m)) = false

few_states : (state : ReadState) → state_number state < 6
few_states states.NotRequested = omega arith
few_states states.Ineligible = omega arith
few_states states.Indeterminate = omega arith
few_states states.Unmapped = omega arith
few_states states.Single = omega arith
few_states states.Multiple = omega arith

-- a ledger is posted where there is room
posted_if : (b : Bool) (l : Ledger) (r : Option Ledger) → r ≡ cond b (Some l) None → is_some r ≡ b
posted_if true l r e = ap is_some e
posted_if false l r e = ap is_some e

-- lists put into parts of whole entries leave what lies behind these
within_parts : (b : List ℕ) (width from : ℕ) (ls : List (List ℕ)) (c : List ℕ) → Within b c → Short width ls → from + width * length ls ≤ 4 * entry_count b → Within b (in_parts width from ls c)
within_parts b width from [] c w short h = w
within_parts b width from (l ∷ ls) c w short h =
    let m : width * length (l ∷ ls) ≡ width + width * length ls = mul-suc' width (length ls) in
    within_parts b width (from + width) ls (placed from l c) (within_placed b c w from l (omega (arith, short.0, m))) short.1 (omega (arith, m))
  where
    mul-suc' : (x n : ℕ) → x * suc n ≡ x + x * n
    mul-suc' x n = omega (arith, mul-suc x n)

module _ (s : Settings) (ss : List (List ℕ)) (way : Way) (ranked : List ℕ) (first second : ℕ) (one two : Observed) (buffer entries : List ℕ)
    (n : ℕ) (lent : Ranked n ranked) (many : length ranked ≡ length ss) (limit : limit_right s.limit ≡ true) (roles : (first < 3) × (second < 3)) where
  abbrev P : ℕ
  P = entry_count buffer

  room_for : 4 * P ≤ length (cleared buffer)
  room_for = omega (arith, length-cleared buffer)

  -- ---- a single read

  module _ (m : Mapping) (told : mapping_row m ≡ observed_row s ss way one) (room : observed_room s ss P one ≡ 0) (written : entries ≡ in_parts (4 * P) 0 (observed_entries s ss ranked one ∷ []) (cleared buffer)) where
    single_part : window entries 0 (4 * P) ≡ placed 0 (observed_entries s ss ranked one) (window (cleared buffer) 0 (4 * P))
    single_part = ap (λ l. window l 0 (4 * P)) written ∙ (parts_placed (4 * P) 0 (observed_entries s ss ranked one ∷ []) (cleared buffer) (observed_short s ss one ranked P room, tt) (omega (arith, room_for))).0

    single_posts : AllPost ranked (record { tally = tally_of first m; entries = entries } ∷ []) (observed_booked s ss first one ∷ [])
    single_posts = (observed_posts s ss way ranked one m told P 0 room entries _ single_part n lent many limit first, tt)

    single_within : Within buffer entries
    single_within = rw written (within_parts buffer (4 * P) 0 (observed_entries s ss ranked one ∷ []) (cleared buffer) (within_zeros buffer) (observed_short s ss one ranked P room, tt) (omega arith))

    single_lent : (k : Counters) → n ≡ length k.placements → CountersLent (length k.placements) k → FragmentPostable (tally_of first m) (tally_of first m) false (4 * P) entries k
    single_lent k e c =
        record {
          counters = c;
          within = omega (arith, length-written);
          first_postable = subst (λ z. Postable z (record { tally = tally_of first m; entries = entries })) e (observed_postable s ss way ranked one m told P 0 room entries _ single_part n lent many limit first roles.0 (few_states m.state) (omega (arith, length-written)));
          second_postable = λ f. absurd (true≢false (sym f));
        }
      where
        length-written : 4 * P ≤ length entries
        length-written = omega (arith, room_for, ap length written, length_parts (4 * P) 0 (observed_entries s ss ranked one ∷ []) (cleared buffer) (observed_short s ss one ranked P room, tt) (omega (arith, room_for)))

  -- ---- a pair

  module _ (m : Mates) (told : mapping_row m.first ≡ observed_row s ss way one) (also : mapping_row m.second ≡ observed_row s ss way two)
      (room : observed_room s ss (P / 2) one ≡ 0) (more : observed_room s ss (P / 2) two ≡ 0)
      (written : entries ≡ in_parts (4 * (P / 2)) 0 (observed_entries s ss ranked one ∷ observed_entries s ss ranked two ∷ []) (cleared buffer)) where
    abbrev width : ℕ
    width = 4 * (P / 2)

    abbrev lists : List (List ℕ)
    lists = observed_entries s ss ranked one ∷ observed_entries s ss ranked two ∷ []

    short : Short width lists
    short = (observed_short s ss one ranked (P / 2) room, (observed_short s ss two ranked (P / 2) more, tt))

    halves : 0 + width * length lists ≤ length (cleared buffer)
    halves = omega (arith, room_for)

    parts : InParts (λ l. l) width 0 lists (cleared buffer) entries
    parts = subst (InParts (λ l. l) width 0 lists (cleared buffer)) (sym written) (parts_placed width 0 lists (cleared buffer) short halves)

    long : width + width ≤ length entries
    long = omega (arith, room_for, ap length written, length_parts width 0 lists (cleared buffer) short halves)

    from : 0 + width ≡ width
    from = omega arith

    second_part : window entries width width ≡ placed 0 (observed_entries s ss ranked two) (window (cleared buffer) width width)
    second_part = rw from at parts.1.0

    pair_posts : AllPost ranked (record { tally = tally_of first m.first; entries = entries } ∷ record { tally = tally_of second m.second; entries = drop width entries } ∷ []) (observed_booked s ss first one ∷ observed_booked s ss second two ∷ [])
    pair_posts = (
      observed_posts s ss way ranked one m.first told (P / 2) 0 room entries _ parts.0 n lent many limit first,
      (observed_posts s ss way ranked two m.second also (P / 2) width more entries _ second_part n lent many limit second, tt),
    )

    pair_within : Within buffer entries
    pair_within = rw written (within_parts buffer width 0 lists (cleared buffer) (within_zeros buffer) short (omega arith))

    pair_lent : (k : Counters) → n ≡ length k.placements → CountersLent (length k.placements) k → FragmentPostable (tally_of first m.first) (tally_of second m.second) true width entries k
    pair_lent k e c =
        record {
          counters = c;
          within = omega (arith, long);
          first_postable = subst (λ z. Postable z (record { tally = tally_of first m.first; entries = entries })) e (observed_postable s ss way ranked one m.first told (P / 2) 0 room entries _ parts.0 n lent many limit first roles.0 (few_states m.first.state) (omega (arith, long)));
          second_postable = λ _. subst (λ z. Postable z (record { tally = tally_of second m.second; entries = drop width entries })) e (observed_postable s ss way ranked two m.second also (P / 2) width more entries _ second_part n lent many limit second roles.1 (few_states m.second.state) (omega (arith, long)));
        }

  -- ---- an answer in either mode

  -- what is told of the reads of an answer: their targets have counters, and what is posted of them is what is booked of them
  pub record AnswerTold (mode : AuditInputMode) (k : Counters) (a : Result FragmentRows Refusal) : Type 0 where
    pub postable : AnswerPostable a first second (4 * share_of mode P) entries k
    pub posts : ((n : Refusal) → a ≡ Err n → ⊥) → AllPost ranked (answer_reads a first second (4 * share_of mode P) entries) (by_mode mode (observed_booked s ss first one) (observed_booked s ss second two))
    pub within : ((n : Refusal) → a ≡ Err n → ⊥) → Within buffer entries

  module _ (k : Counters) (e : n ≡ length k.placements) (c : CountersLent (length k.placements) k) where
    answer_told : (mode : AuditInputMode) (a : Result FragmentRows Refusal)
        → fragment_outcome a ≡ outcome (first_refusal (observed_room s ss (share_of mode P)) (by_mode mode one two)) (map (observed_row s ss way) (by_mode mode one two))
        → entries ≡ entries_left (first_refusal (observed_room s ss (share_of mode P)) (by_mode mode one two)) (in_parts (4 * share_of mode P) 0 (map (observed_entries s ss ranked) (by_mode mode one two)) (cleared buffer)) buffer
        → AnswerTold mode k a
    answer_told mode (Err m) A E = record { postable = tt; posts = λ ne. absurd (ne m refl); within = λ ne. absurd (ne m refl) }
    answer_told modes.SingleEnd (Ok (fragments.Single m)) A E =
        let o = outcome_accepted (observed_room s ss P one or_else 0) (observed_row s ss way one ∷ []) (mapping_row m ∷ []) (sym A) in
        let room = none_first (observed_room s ss P one) 0 o.0 in
        let told = sym (head-eq_of_cons-eq o.1) in
        let written = E ∙ ap (λ z. entries_left z (in_parts (4 * P) 0 (observed_entries s ss ranked one ∷ []) (cleared buffer)) buffer) o.0 in
        record { postable = single_lent m told room written k e c; posts = λ ne. single_posts m told room written; within = λ ne. single_within m told room written }
    answer_told modes.SingleEnd (Ok (fragments.Paired m)) A E =
        let o = outcome_accepted (observed_room s ss P one or_else 0) (observed_row s ss way one ∷ []) (mapping_row m.first ∷ mapping_row m.second ∷ []) (sym A) in
        absurd (omega (arith, ap length o.1))
    answer_told modes.PairedEnd (Ok (fragments.Single m)) A E =
        let o = outcome_accepted (observed_room s ss (P / 2) one or_else observed_room s ss (P / 2) two or_else 0) (observed_row s ss way one ∷ observed_row s ss way two ∷ []) (mapping_row m ∷ []) (sym A) in
        absurd (omega (arith, ap length o.1))
    answer_told modes.PairedEnd (Ok (fragments.Paired m)) A E =
        let o = outcome_accepted (observed_room s ss (P / 2) one or_else observed_room s ss (P / 2) two or_else 0) (observed_row s ss way one ∷ observed_row s ss way two ∷ []) (mapping_row m.first ∷ mapping_row m.second ∷ []) (sym A) in
        let room = none_first (observed_room s ss (P / 2) one) _ o.0 in
        let more = none_first (observed_room s ss (P / 2) two) 0 (none_second (observed_room s ss (P / 2) one) _ o.0) in
        let told = sym (head-eq_of_cons-eq o.1) in
        let also = sym (head-eq_of_cons-eq (tail-eq_of_cons-eq o.1)) in
        let written = E ∙ ap (λ z. entries_left z (in_parts (4 * (P / 2)) 0 (observed_entries s ss ranked one ∷ observed_entries s ss ranked two ∷ []) (cleared buffer)) buffer) o.0 in
        record { postable = pair_lent m told also room more written k e c; posts = λ ne. pair_posts m told also room more written; within = λ ne. pair_within m told also room more written }

    module _ (r : Result FragmentRows Refusal) (seen : ReadsObserved s ss way ranked (by_mode s.mode one two) r buffer entries) where
      pub told : AnswerTold s.mode k r
      told = answer_told s.mode r seen.answer seen.entries

      abbrev rooms : ℕ
      rooms = rooms_refusal s ss way ranked (by_mode s.mode one two) P

      abbrev books : Ledger → Books
      books l = record { ledger = l; counters = k }

      -- 17 is the test of what is posted
      fits-countable : (l : Ledger) → ((m : Refusal) → r ≡ Err m → ⊥)
          → countable (booked_all ranked (by_mode s.mode (observed_booked s ss first one) (observed_booked s ss second two)) (books l)) ≡ books_small (posted_all (answer_reads r first second (4 * share_of s.mode P) entries) (books l))
      fits-countable l ne =
          books_countable _
          ∙ ap books_small (sym (posted_all_lem ranked (answer_reads r first second (4 * share_of s.mode P) entries) (by_mode s.mode (observed_booked s ss first one) (observed_booked s ss second two)) (told.posts ne) (books l)))

      abbrev written : List ℕ
      written = in_parts (4 * share_of s.mode P) 0 (map (observed_entries s ss ranked) (by_mode s.mode one two)) (cleared buffer)

      -- an accepted answer had room
      pub accepted_room : ((m : Refusal) → r ≡ Err m → ⊥) → rooms ≡ 0
      accepted_room ne = go r refl
        where
          go : (a : Result FragmentRows Refusal) → r ≡ a → rooms ≡ 0
          go (Err m) f = absurd (ne m f)
          go (Ok (fragments.Single m)) f = (outcome_accepted rooms _ (mapping_row m ∷ []) (sym seen.answer ∙ ap fragment_outcome f)).0
          go (Ok (fragments.Paired m)) f = (outcome_accepted rooms _ (mapping_row m.first ∷ mapping_row m.second ∷ []) (sym seen.answer ∙ ap fragment_outcome f)).0

      module _ (l : Ledger) (r' : Option Ledger) (posted : AnswerPosted r first second (4 * share_of s.mode P) entries (books l) r') where
        abbrev refusal : ℕ
        refusal = observed_refusal s ss way ranked first second one two l k P

        -- there is no room in the books: the answer was accepted, and is refused 17
        full : IsNone r' → (((m : Refusal) → r ≡ Err m → ⊥) × (refusal ≡ 17))
        full f = go r refl posted
          where
            not_refused : (a : Result FragmentRows Refusal) → is_refused a ≡ false → (m : Refusal) → a ≡ Err m → ⊥
            not_refused a e m g = true≢false (sym (ap is_refused g) ∙ e)

            seventeen : ((m : Refusal) → r ≡ Err m → ⊥) → books_small (posted_all (answer_reads r first second (4 * share_of s.mode P) entries) (books l)) ≡ false → refusal ≡ 17
            seventeen ne z = rw (accepted_room ne, fits-countable l ne, z)

            go : (a : Result FragmentRows Refusal) → r ≡ a → AnswerPosted a first second (4 * share_of s.mode P) entries (books l) r' → (((m : Refusal) → r ≡ Err m → ⊥) × (refusal ≡ 17))
            go (Err m) e p = absurd (true≢false (ap is_some (sym p) ∙ f))
            go (Ok (fragments.Single m)) e p =
                let ne : (m : Refusal) → r ≡ Err m → ⊥ = λ n g. not_refused (Ok (fragments.Single m)) refl n (sym e ∙ g) in
                (ne, seventeen ne (ap (λ a. books_small (posted_all (answer_reads a first second (4 * share_of s.mode P) entries) (books l))) e ∙ sym (posted_if _ _ r' p) ∙ f))
            go (Ok (fragments.Paired m)) e p =
                let ne : (m : Refusal) → r ≡ Err m → ⊥ = λ n g. not_refused (Ok (fragments.Paired m)) refl n (sym e ∙ g) in
                (ne, seventeen ne (ap (λ a. books_small (posted_all (answer_reads a first second (4 * share_of s.mode P) entries) (books l))) e ∙ sym (posted_if _ _ r' p) ∙ f))

        -- there is room: the refusal is that of the rooms
        fitting : IsSome r' → refusal ≡ rooms
        fitting f = go r refl posted
          where
            counted : ((m : Refusal) → r ≡ Err m → ⊥) → books_small (posted_all (answer_reads r first second (4 * share_of s.mode P) entries) (books l)) ≡ true → refusal ≡ rooms
            counted ne z = rw (accepted_room ne, fits-countable l ne, z)

            go : (a : Result FragmentRows Refusal) → r ≡ a → AnswerPosted a first second (4 * share_of s.mode P) entries (books l) r' → refusal ≡ rooms
            go (Err m) e p =
                let o = outcome_number rooms (refusal_number m) _ (sym seen.answer ∙ ap fragment_outcome e) in
                sym (first_stands rooms _ (λ z. o.1 (sym o.0 ∙ z)))
            go (Ok (fragments.Single m)) e p = counted (λ n g. true≢false (sym (ap is_refused (sym e ∙ g)))) (ap (λ a. books_small (posted_all (answer_reads a first second (4 * share_of s.mode P) entries) (books l))) e ∙ sym (posted_if _ _ r' p) ∙ f)
            go (Ok (fragments.Paired m)) e p = counted (λ n g. true≢false (sym (ap is_refused (sym e ∙ g)))) (ap (λ a. books_small (posted_all (answer_reads a first second (4 * share_of s.mode P) entries) (books l))) e ∙ sym (posted_if _ _ r' p) ∙ f)

        -- the answer stands
        pub observed_done : IsSome r' → RankedObserved s ss way ranked first second one two l k r buffer entries
        observed_done f = record { answer = rw (fitting f) seen.answer; entries = rw (fitting f) seen.entries }

        -- or all is set to zero again
        pub observed_full : IsNone r' → (b : List ℕ) → b ≡ cleared entries → RankedObserved s ss way ranked first second one two l k (Err refusals.FullCounter) buffer b
        observed_full f b e =
            let o = full f in
            record { answer = rw o.1 refl; entries = rw o.1 (e ∙ within_cleared buffer entries (told.within o.0)) }

-- ---- as the function has it

module _ (indexed : Bool) (q : ℕ) (bases ends ranked ks rs os first second : List ℕ) (searched : SearchedReads) (s : Settings) (k : Counters)
    (lent : RankedLent indexed q bases ends ranked ks rs os first second searched s k) (one two : MateRole) (buffer entries : List ℕ) (r : Result FragmentRows Refusal)
    (seen : ReadsObserved s (ranked_sequences bases ends ranked) (way_if indexed q) ranked (observed_reads s searched.first first searched.second second) r buffer entries)
    (w : ℕ) (share : w ≡ share_of s.mode (entry_count buffer)) where
  abbrev many : length ranked ≡ length (ranked_sequences bases ends ranked)
  many = sym (length-map ranked (λ p. get_or (cut ends bases) p []))

  abbrev both : (role_number one < 3) × (role_number two < 3)
  both = (few_roles one, few_roles two)

  pub ranked_postable : AnswerPostable r (role_number one) (role_number two) (4 * w) entries k
  ranked_postable =
      rw share
      (told s (ranked_sequences bases ends ranked) (way_if indexed q) ranked (role_number one) (role_number two) (as_observed searched.first first) (as_observed searched.second second) buffer entries
      (length k.placements) lent.places many lent.limit both k refl lent.counters r seen).postable

  module _ (l : Ledger) (r' : Option Ledger) (posted : AnswerPosted r (role_number one) (role_number two) (4 * w) entries (record { ledger = l; counters = k }) r') where
    pub ranked_done : IsSome r'
        → RankedObserved s (ranked_sequences bases ends ranked) (way_if indexed q) ranked (role_number one) (role_number two) (as_observed searched.first first) (as_observed searched.second second) l k r buffer entries
    ranked_done =
        observed_done s (ranked_sequences bases ends ranked) (way_if indexed q) ranked (role_number one) (role_number two) (as_observed searched.first first) (as_observed searched.second second) buffer entries
        (length k.placements) lent.places many lent.limit both k refl lent.counters r seen l r' (rw share at posted)

    pub ranked_full : IsNone r' → (b : List ℕ) → b ≡ cleared entries
        → RankedObserved s (ranked_sequences bases ends ranked) (way_if indexed q) ranked (role_number one) (role_number two) (as_observed searched.first first) (as_observed searched.second second) l k (Err refusals.FullCounter) buffer b
    ranked_full f b e =
        observed_full s (ranked_sequences bases ends ranked) (way_if indexed q) ranked (role_number one) (role_number two) (as_observed searched.first first) (as_observed searched.second second) buffer entries
        (length k.placements) lent.places many lent.limit both k refl lent.counters r seen l r' (rw share at posted) f b e
