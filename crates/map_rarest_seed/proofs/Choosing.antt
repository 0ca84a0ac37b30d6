-- The offsets of a read looked up one after the other, and the rarest of them.
use mathlib.Core.Path.{◌≡◌, refl, sym, ap, subst, subst₂, ◌∙◌}
use mathlib.Core.Bool.{Bool, true, false, cond}
use mathlib.Core.List.{List, [], ◌∷◌}
use Prim.Native.Nat.{ℕ, zero, suc, ◌+◌, ◌-◌, ◌<◌, ◌≤◌}
use native.Mathlib.Omega.{arith}
use native.Mathlib.Numerals.{add-one}
use native.Mathlib.Nat.{add-zero}
use lib.ListN.{length, get_or, drop, length-take, length-drop}
use lib.Dec.{eqb, ltb}
use borrow.Author.Tests.{eq-eqb, ne_eqb, ltb-false, le-ltb}
use Rattle.lists.specs.Limit.{go_on, stopped}
use Rattle.lists.specs.Cut.{window}
use Rattle.lists.proofs.Cases.{by_test}
use Rattle.lists.proofs.Filter.{filter_range}
use Rattle.lists.specs.Numbers.{numbers}
use Rattle.index_seeds.specs.Key.{key_of}
use Rattle.index_seeds.specs.Window.{starts}
use Rattle.index_lookup.specs.Range.{RangeOf}
use Rattle.map_candidates.specs.Search.{tried, fewest, rarest, key_count, offset_count, Rarest}
use Rattle.map_rarest_seed.specs.Choosing.{Better, Counted}

-- a range has as many places as its key has postings
pub range_count : (keys : List ℕ) (k start end : ℕ) → RangeOf keys k start end → key_count keys k ≡ end - start
range_count keys k start end r =
    let e = filter_range (λ x. eqb x k) 0 start (end - start) keys (omega (arith, r.ordered, r.inside))
    (λ i h. ne_eqb (get_or keys i 0) k (λ e. let b = r.before i h in omega arith))
    (λ i h l. eq-eqb (get_or keys i 0) k (r.among i h (omega (arith, r.ordered))))
    (λ i h l. ne_eqb (get_or keys i 0) k (λ e. let b = r.after i (omega (arith, r.ordered)) l in omega arith)) in
    omega (arith, ap length e, length-take (end - start) (drop start keys), length-drop start keys, r.ordered, r.inside)

numbers_step : (o n : ℕ) → o < n → numbers o (n - o) ≡ o ∷ numbers (suc o) (n - suc o)
numbers_step o n h = go (n - o) (n - suc o) (omega arith)
  where
    go : (k j : ℕ) → k ≡ suc j → numbers o k ≡ o ∷ numbers (suc o) j
    go k j e = rw e

module _ (f : ℕ → ℕ) (n : ℕ) where
  -- the offsets that are looked up after o
  pub ahead : ℕ → List ℕ
  ahead o = go_on (eqb (f o) 0) 0 (λ m. stopped (λ x. eqb (f x) 0) (numbers (suc o) (n - suc o)) m)

  stopped_ahead : (o : ℕ) → o < n → stopped (λ x. eqb (f x) 0) (numbers o (n - o)) 0 ≡ o ∷ ahead o
  unfolding ahead
  stopped_ahead o h = rw (numbers_step o n h)

  ahead_none : (o : ℕ) → f o ≡ 0 → ahead o ≡ []
  unfolding ahead
  ahead_none o e = rw (eq-eqb (f o) 0 e)

  ahead_some : (o : ℕ) → suc o < n → (f o ≡ 0 → ⊥) → ahead o ≡ suc o ∷ ahead (suc o)
  unfolding ahead
  ahead_some o h ne = rw (ne_eqb (f o) 0 ne) (stopped_ahead (suc o) h)

  ahead_end : (o : ℕ) → n ≤ suc o → ahead o ≡ []
  unfolding ahead
  ahead_end o h = go (eqb (f o) 0) (n - suc o) (omega arith)
    where
      go : (b : Bool) (k : ℕ) → k ≡ 0 → go_on b 0 (λ m. stopped (λ x. eqb (f x) 0) (numbers (suc o) k) m) ≡ []
      go true k e = refl
      go false k e = rw e

  -- the offsets up to `last` are looked up, `best` being the rarest of them
  pub record Looked (last best lookups : ℕ) : Type 0 where
    pub inside : last < n
    pub counted : lookups ≡ suc last
    pub choice : fewest f best (ahead last) ≡ rarest n f
    pub total : lookups + length (ahead last) ≡ length (tried n f)
    pub empty : f best ≡ 0 → f last ≡ 0
    pub found : f last ≡ 0 → f best ≡ 0

  pub looked_first : 0 < n → Looked 0 0 1
  looked_first h =
      let z : n - 0 ≡ n = omega arith in
      let e : tried n f ≡ 0 ∷ ahead 0 = ap (λ k. stopped (λ x. eqb (f x) 0) (numbers 0 k) 0) (sym z) ∙ stopped_ahead 0 h in
      record {
        inside = h;
        counted = refl;
        choice = sym (ap (fewest f 0) e ∙ ap (λ b. fewest f b (ahead 0)) (either (ltb (f 0) (f 0)) 0));
        total = omega (arith, ap length e);
        empty = λ x. x;
        found = λ x. x;
      }
    where
      either : (b : Bool) (x : ℕ) → cond b x x ≡ x
      either true x = refl
      either false x = refl

  module _ (last best lookups : ℕ) (l : Looked last best lookups) where
    -- nothing is left to look up
    pub looked_none : f best ≡ 0 → (best ≡ rarest n f) × (lookups ≡ length (tried n f))
    looked_none e =
        let a = ahead_none last (l.empty e) in
        (ap (fewest f best) (sym a) ∙ l.choice, omega (arith, l.total, ap length a))

    pub looked_all : n ≤ suc last → (best ≡ rarest n f) × (lookups ≡ length (tried n f))
    looked_all h =
        let a = ahead_end last h in
        (ap (fewest f best) (sym a) ∙ l.choice, omega (arith, l.total, ap length a))

    -- one more
    pub looked_more : suc last < n → (f best ≡ 0 → ⊥) → Looked (suc last) (cond (ltb (f (suc last)) (f best)) (suc last) best) (lookups + 1)
    looked_more h ne =
        let a = ahead_some last h (λ e. ne (l.found e)) in
        record {
          inside = h;
          counted = omega (arith, l.counted);
          choice = ap (fewest f best) (sym a) ∙ l.choice;
          total = omega (arith, l.total, ap length a);
          empty = by_test (ltb (f (suc last)) (f best)) (λ t. rw t (λ e. e)) (λ t. rw t (λ e. absurd (ne e)));
          found = by_test (ltb (f (suc last)) (f best)) (λ t. rw t (λ e. e)) (λ t. rw t (λ e. absurd (ne (omega (arith, ltb-false (f (suc last)) (f best) t)))));
        }

-- offsets whose counts are not below the best one's change nothing but the number of lookups
pub looked-skip : (f : ℕ → ℕ) (n last best lookups e : ℕ) → Looked f n last best lookups → last + e < n → (f best ≡ 0 → ⊥) → ((o : ℕ) → last < o → o ≤ last + e → f best ≤ f o) → Looked f n (last + e) best (lookups + e)
looked-skip f n last best lookups zero l h ne g = rw (add-zero, add-zero) l
looked-skip f n last best lookups (suc e) l h ne g =
    let m = looked-skip f n last best lookups e l (omega arith) ne (λ o a b. g o a (omega arith)) in
    let one = looked_more f n (last + e) best (lookups + e) m (omega arith) ne in
    let kept : Looked f n (suc (last + e)) best (lookups + e + 1) = rw (le-ltb (f (suc (last + e))) (f best) (g (suc (last + e)) (omega arith) (omega arith))) at one in
    let a : suc (last + e) ≡ last + suc e = omega arith in
    let b : lookups + e + 1 ≡ lookups + suc e = omega arith in
    subst₂ (λ x y. Looked f n x best y) a b kept

-- the search for the rarest seed under way: offset o, whose postings have a range, was looked up last
pub record Choosing (keys : List ℕ) (q : ℕ) (b : List ℕ) (n o s e offset start end lookups : ℕ) : Type 0 where
  pub here : RangeOf keys (key_of (window b o q)) s e
  pub range : RangeOf keys (key_of (window b offset q)) start end
  pub least : end - start ≤ e - s
  pub looked : Looked (offset_count keys q b) n o offset lookups

-- offsets up to o are counted
pub record Passed (keys : List ℕ) (q : ℕ) (b : List ℕ) (n o offset start end lookups : ℕ) : Type 0 where
  pub range : RangeOf keys (key_of (window b offset q)) start end
  pub some : start ≡ end → ⊥
  pub looked : Looked (offset_count keys q b) n o offset lookups

module _ (keys : List ℕ) (q : ℕ) (b : List ℕ) (n : ℕ) where
  abbrev count : ℕ → ℕ
  count = offset_count keys q b

  counted : (offset start end : ℕ) → RangeOf keys (key_of (window b offset q)) start end → count offset ≡ end - start
  counted offset start end r = range_count keys (key_of (window b offset q)) start end r

  pub choosing_first : 0 < n → (key s e : ℕ) → key ≡ key_of (window b 0 q) → RangeOf keys key s e → Choosing keys q b n 0 s e 0 s e 1
  choosing_first h key s e d r = record { here = rw d at r; range = rw d at r; least = omega arith; looked = looked_first count n h }

  -- what is chosen at the end
  chosen : (offset start end lookups : ℕ) → n ≡ starts q b → RangeOf keys (key_of (window b offset q)) start end → (offset ≡ rarest n count) × (lookups ≡ length (tried n count)) → Rarest keys q b offset start end lookups
  chosen offset start end lookups e r p = record { offset-is = p.0 ∙ ap (λ m. rarest m count) e; range_is = r; lookups_are = p.1 ∙ ap (λ m. length (tried m count)) e }

  module _ (o s e offset start end lookups : ℕ) (c : Choosing keys q b n o s e offset start end lookups) where
    pub choosing_none : n ≡ starts q b → start ≡ end → Rarest keys q b offset start end lookups
    choosing_none m z = chosen offset start end lookups m c.range (looked_none count n o offset lookups c.looked (omega (arith, counted offset start end c.range)))

    pub choosing_all : n ≡ starts q b → n ≤ o + 1 → Rarest keys q b offset start end lookups
    choosing_all m h = chosen offset start end lookups m c.range (looked_all count n o offset lookups c.looked (omega arith))

    -- offsets that have no fewer postings
    pub choosing_passed : (start ≡ end → ⊥) → (r : ℕ) → o + r < n → ((d : ℕ) → d ≤ r → count o ≤ count (o + d)) → (o' s' e' l' : ℕ) → Counted offset start end lookups r o' s' e' l' → Passed keys q b n (o + r) o' s' e' l'
    choosing_passed ne r h grow o' s' e' l' k =
        rw (k.offset-is, k.start_is, k.end_is, k.lookups_are)
        (record {
          range = c.range;
          some = ne;
          looked = looked-skip count n o offset lookups r c.looked h (λ z. ne (omega (arith, counted offset start end c.range, z, c.range.ordered))) no_fewer;
        })
      where
        no_fewer : (x : ℕ) → o < x → x ≤ o + r → count offset ≤ count x
        no_fewer x a f =
            let e' : o + (x - o) ≡ x = omega arith in
            let g = subst (λ y. count o ≤ count y) e' (grow (x - o) (omega arith)) in
            omega (arith, g, c.least, counted offset start end c.range, counted o s e c.here)

  module _ (last offset start end lookups : ℕ) (p : Passed keys q b n last offset start end lookups) where
    pub passed_all : n ≡ starts q b → n ≤ last + 1 → Rarest keys q b offset start end lookups
    passed_all m h = chosen offset start end lookups m p.range (looked_all count n last offset lookups p.looked (omega arith))

    pub passed_more : last + 1 < n → (key s e : ℕ) → key ≡ key_of (window b (last + 1) q) → RangeOf keys key s e → (o' s' e' l' : ℕ) → Better offset start end lookups (last + 1) s e o' s' e' l' → Choosing keys q b n (last + 1) s e o' s' e' l'
    passed_more h key s e d r o' s' e' l' k = rw (k.offset-is, k.start_is, k.end_is, k.lookups_are) (by_test (ltb (e - s) (end - start)) (λ t. rw t (taken t)) (λ t. rw t (left t)))
      where
        there : RangeOf keys (key_of (window b (last + 1) q)) s e
        there = rw d at r

        more : Looked count n (last + 1) (cond (ltb (count (last + 1)) (count offset)) (last + 1) offset) (lookups + 1)
        more = rw (← add-one last) at (looked_more count n last offset lookups p.looked (omega arith) (λ z. p.some (omega (arith, counted offset start end p.range, z, p.range.ordered))))

        taken : ltb (e - s) (end - start) ≡ true → Choosing keys q b n (last + 1) s e (last + 1) s e (lookups + 1)
        taken t = record { here = there; range = there; least = omega arith; looked = rw (counted (last + 1) s e there, counted offset start end p.range, t) at more }

        left : ltb (e - s) (end - start) ≡ false → Choosing keys q b n (last + 1) s e offset start end (lookups + 1)
        left t = record { here = there; range = p.range; least = ltb-false (e - s) (end - start) t; looked = rw (counted (last + 1) s e there, counted offset start end p.range, t) at more }

    -- the same at an offset that is told
    pub passed_next : (x : ℕ) → x ≡ last + 1 → x < n → (key s e : ℕ) → key ≡ key_of (window b x q) → RangeOf keys key s e → (o' s' e' l' : ℕ) → Better offset start end lookups x s e o' s' e' l' → Choosing keys q b n x s e o' s' e' l'
    passed_next x i h key s e d r o' s' e' l' k =
        subst (λ y. Choosing keys q b n y s e o' s' e' l') (sym i)
        (passed_more (subst (λ y. y < n) i h) key s e (subst (λ y. key ≡ key_of (window b y q)) i d) r o' s' e' l' (subst (λ y. Better offset start end lookups y s e o' s' e' l') i k))
