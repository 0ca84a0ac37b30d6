-- A command takes a byte at least, so that as many commands as bytes are enough.
use mathlib.Core.Path.{◌≡◌, refl, ap, ◌∙◌}
use mathlib.Core.Bool.{Bool, true, false, cond, ◌&&◌, ◌||◌}
use mathlib.Core.List.{List, [], ◌∷◌, ◌++◌}
use Prim.Native.Nat.{ℕ, zero, suc, ◌≤◌, ◌<◌}
use native.Mathlib.Omega.{arith}
use lib.ListN.{length, get_or, take, drop, length-drop}
use lib.Dec.{eqb, leb}
use Rattle.lists.specs.Filter.{every}
use Rattle.catalogue.specs.Catalogue.{Catalogue}
use Rattle.audit_model.specs.declared.settings.Settings.{Settings}
use Rattle.audit_model.specs.Settings.{Held, audit_seed, audit_offset}
use Rattle.audit_model.specs.Opening.{opening_refusal, started}
use Rattle.audit_model.specs.Observing.{MateRead}
use Rattle.audit_model.specs.Fragment.{Fragment, fragment_refusal}
use Rattle.audit_model.specs.Calls.{mate_of}
use Rattle.audit_model.specs.Sheet.{finish_refusal}
use Rattle.catch_commands.specs.Operands.{Parsed, parsed, wrong, short, ◌followed_by◌, bytes_in, little_endian}
use Rattle.audit_codes.specs.Codes.{is_mark, is_set, role_of}
use Rattle.catch_commands.specs.Commands.{provided, settings_of, settings_in, is_name_byte, with_target, target_right, target_in, quality_count, read_right, read_operands, read_in, reads_in, fragment_in, max_stream_reads}
use Rattle.catch_model.specs.Job.{no_targets, Stage, beginning, supplying, running, Step, ends, goes, refuses, when_read, audited, finished, begin, run, opened, supply, command, lent_of, stream_entries, onward, written, still}

-- ---- what is left behind something that was read is no longer

abbrev Shrinks : {A : Type 0} → Parsed A → ℕ → Type 0
Shrinks (parsed a rest) n = length rest ≤ n
Shrinks wrong n = Unit {0}
Shrinks short n = Unit {0}

shrinks_more : {A : Type 0} (p : Parsed A) (m n : ℕ) → m ≤ n → Shrinks p m → Shrinks p n
shrinks_more (parsed a rest) m n h s = omega arith
shrinks_more wrong m n h s = tt
shrinks_more short m n h s = tt

followed_shrinks : {A B : Type 0} (p : Parsed A) (next : A → List ℕ → Parsed B) (n : ℕ) → Shrinks p n → ((a : A) (rest : List ℕ) → Shrinks (next a rest) (length rest)) → Shrinks (p followed_by next) n
followed_shrinks (parsed a rest) next n s f = shrinks_more (next a rest) (length rest) n s (f a rest)
followed_shrinks wrong next n s f = tt
followed_shrinks short next n s f = tt

cond_shrinks : {A : Type 0} (b : Bool) (p q : Parsed A) (n : ℕ) → Shrinks p n → Shrinks q n → Shrinks (cond b p q) n
cond_shrinks true p q n s t = s
cond_shrinks false p q n s t = t

bytes_shrink : (n : ℕ) (bytes : List ℕ) → Shrinks (bytes_in n bytes) (length bytes)
bytes_shrink n bytes = cond_shrinks (leb n (length bytes)) (parsed (take n bytes) (drop n bytes)) short (length bytes) (omega (arith, length-drop n bytes)) tt

provided_shrinks : {A : Type 0} (b : Bool) (a : A) (rest : List ℕ) → Shrinks (provided b a rest) (length rest)
provided_shrinks true a rest = omega arith
provided_shrinks false a rest = tt

settings_shrink : (bytes : List ℕ) → Shrinks (settings_in bytes) (length bytes)
settings_shrink bytes =
    followed_shrinks (bytes_in 11 bytes) (λ h. provided (is_mark (get_or h 0 0) && is_mark (get_or h 1 0)) (settings_of h)) (length bytes) (bytes_shrink 11 bytes)
    (λ h rest. provided_shrinks (is_mark (get_or h 0 0) && is_mark (get_or h 1 0)) (settings_of h) rest)

target_shrinks : (c : Catalogue) (bytes : List ℕ) → Shrinks (target_in c bytes) (length bytes)
target_shrinks c bytes = followed_shrinks (bytes_in 6 bytes) fitting (length bytes) (bytes_shrink 6 bytes) fitting_shrinks
  where
    whole : List ℕ → List ℕ → List ℕ → List ℕ → Parsed Catalogue
    whole h identifier bases = provided (every is_name_byte identifier) (with_target c (get_or h 0 0) identifier bases)

    based : List ℕ → List ℕ → List ℕ → Parsed Catalogue
    based h identifier behind = bytes_in (little_endian (drop 2 h)) behind followed_by whole h identifier

    named : List ℕ → List ℕ → Parsed Catalogue
    named h rest = bytes_in (get_or h 1 0) rest followed_by based h

    fitting : List ℕ → List ℕ → Parsed Catalogue
    fitting h rest = cond (target_right c h) (named h rest) wrong

    based_shrinks : (h identifier behind : List ℕ) → Shrinks (based h identifier behind) (length behind)
    based_shrinks h identifier behind =
        followed_shrinks (bytes_in (little_endian (drop 2 h)) behind) (whole h identifier) (length behind) (bytes_shrink (little_endian (drop 2 h)) behind)
        (λ bases last. provided_shrinks (every is_name_byte identifier) (with_target c (get_or h 0 0) identifier bases) last)

    named_shrinks : (h rest : List ℕ) → Shrinks (named h rest) (length rest)
    named_shrinks h rest = followed_shrinks (bytes_in (get_or h 1 0) rest) (based h) (length rest) (bytes_shrink (get_or h 1 0) rest) (based_shrinks h)

    fitting_shrinks : (h rest : List ℕ) → Shrinks (fitting h rest) (length rest)
    fitting_shrinks h rest = cond_shrinks (target_right c h) (named h rest) wrong (length rest) (named_shrinks h rest) tt

operands_shrink : (bytes : List ℕ) → Shrinks (read_operands bytes) (length bytes)
operands_shrink bytes = followed_shrinks (bytes_in 6 bytes) fitting (length bytes) (bytes_shrink 6 bytes) fitting_shrinks
  where
    whole : List ℕ → List ℕ → List ℕ → List ℕ → Parsed MateRead
    whole h bases qualities = parsed (mate_of (role_of (get_or h 0 0)) bases (is_set (get_or h 1 0)) qualities)

    judged : List ℕ → List ℕ → List ℕ → Parsed MateRead
    judged h bases behind = bytes_in (quality_count h) behind followed_by whole h bases

    based : List ℕ → List ℕ → Parsed MateRead
    based h rest = bytes_in (little_endian (drop 2 h)) rest followed_by judged h

    fitting : List ℕ → List ℕ → Parsed MateRead
    fitting h rest = cond (read_right h) (based h rest) wrong

    judged_shrinks : (h bases behind : List ℕ) → Shrinks (judged h bases behind) (length behind)
    judged_shrinks h bases behind =
        followed_shrinks (bytes_in (quality_count h) behind) (whole h bases) (length behind) (bytes_shrink (quality_count h) behind)
        (λ qualities last. omega arith)

    based_shrinks : (h rest : List ℕ) → Shrinks (based h rest) (length rest)
    based_shrinks h rest = followed_shrinks (bytes_in (little_endian (drop 2 h)) rest) (judged h) (length rest) (bytes_shrink (little_endian (drop 2 h)) rest) (judged_shrinks h)

    fitting_shrinks : (h rest : List ℕ) → Shrinks (fitting h rest) (length rest)
    fitting_shrinks h rest = cond_shrinks (read_right h) (based h rest) wrong (length rest) (based_shrinks h rest) tt

read_shrinks : (bytes : List ℕ) → Shrinks (read_in bytes) (length bytes)
read_shrinks [] = tt
read_shrinks (code ∷ bytes) = cond_shrinks (eqb code 4) (read_operands bytes) wrong (length (code ∷ bytes)) (shrinks_more (read_operands bytes) (length bytes) (length (code ∷ bytes)) (omega arith) (operands_shrink bytes)) tt

reads_shrink : (n : ℕ) (bytes : List ℕ) → Shrinks (reads_in n bytes) (length bytes)
reads_shrink zero bytes = omega arith
reads_shrink (suc n) bytes =
    followed_shrinks (read_in bytes) (λ r rest. reads_in n rest followed_by λ rs. parsed (r ∷ rs)) (length bytes) (read_shrinks bytes)
    (λ r rest. followed_shrinks (reads_in n rest) (λ rs. parsed (r ∷ rs)) (length rest) (reads_shrink n rest) (λ rs last. omega arith))

fragment_shrinks : (bytes : List ℕ) → Shrinks (fragment_in bytes) (length bytes)
fragment_shrinks bytes = followed_shrinks (bytes_in 9 bytes) counted (length bytes) (bytes_shrink 9 bytes) counted_shrinks
  where
    whole : List ℕ → List MateRead → List ℕ → Parsed Fragment
    whole h reads = parsed (record { ordinal = little_endian (take 8 h); reads = reads })

    counted : List ℕ → List ℕ → Parsed Fragment
    counted h rest = cond (leb (get_or h 8 0) max_stream_reads) (reads_in (get_or h 8 0) rest followed_by whole h) wrong

    counted_shrinks : (h rest : List ℕ) → Shrinks (counted h rest) (length rest)
    counted_shrinks h rest =
        cond_shrinks (leb (get_or h 8 0) max_stream_reads) (reads_in (get_or h 8 0) rest followed_by whole h) wrong (length rest)
        (followed_shrinks (reads_in (get_or h 8 0) rest) (whole h) (length rest) (reads_shrink (get_or h 8 0) rest) (λ reads last. omega arith))
        tt

-- ---- a command

-- fewer bytes are left than n
abbrev Fewer : Step → ℕ → Type 0
Fewer (ends out) n = Unit {0}
Fewer (goes out stage rest) n = length rest < n

when_fewer : {A : Type 0} (p : Parsed A) (next : A → List ℕ → Step) (n : ℕ) → Shrinks p n → ((a : A) (rest : List ℕ) → length rest ≤ n → Fewer (next a rest) (suc n)) → Fewer (when_read p next) (suc n)
when_fewer (parsed a rest) next n s f = f a rest s
when_fewer wrong next n s f = tt
when_fewer short next n s f = tt

cond_fewer : (b : Bool) (x y : Step) (n : ℕ) → Fewer x n → Fewer y n → Fewer (cond b x y) n
cond_fewer true x y n f g = f
cond_fewer false x y n f g = g

audited_fewer : (m : ℕ) (c : Catalogue) (h : Held) (f : Fragment) (rest : List ℕ) (n : ℕ) → length rest ≤ n → Fewer (audited m c h f rest) (suc n)
audited_fewer zero c h f rest n e = omega arith
audited_fewer (suc m) c h f rest n e = tt

finished_fewer : (m : ℕ) (c : Catalogue) (h : Held) (bytes : List ℕ) (n : ℕ) → Fewer (finished m c h bytes) n
finished_fewer zero c h [] n = tt
finished_fewer (suc m) c h [] n = tt
finished_fewer zero c h (b ∷ bytes) n = tt
finished_fewer (suc m) c h (b ∷ bytes) n = tt

run_fewer : (c : Catalogue) (h : Held) (bytes : List ℕ) → Fewer (run c h bytes) (length bytes)
run_fewer c h [] = tt
run_fewer c h (code ∷ bytes) =
    cond_fewer (eqb code 3) (when_read (fragment_in bytes) audit) (cond (eqb code 5) (finished refusal c h bytes) (refuses 20)) (suc (length bytes))
    (when_fewer (fragment_in bytes) audit (length bytes) (fragment_shrinks bytes) (λ f rest e. audited_fewer (fragment_refusal audit_seed audit_offset c (lent_of c) h f stream_entries) c h f rest (length bytes) e))
    (cond_fewer (eqb code 5) (finished refusal c h bytes) (refuses 20) (suc (length bytes)) (finished_fewer refusal c h bytes (suc (length bytes))) tt)
  where
    audit : Fragment → List ℕ → Step
    audit f = audited (fragment_refusal audit_seed audit_offset c (lent_of c) h f stream_entries) c h f

    refusal : ℕ
    refusal = finish_refusal audit_seed audit_offset c (lent_of c) h

opened_fewer : (m : ℕ) (s : Settings) (c : Catalogue) (bytes : List ℕ) → Fewer (opened m s c bytes) (length bytes)
opened_fewer zero s c bytes = run_fewer c (started c s) bytes
opened_fewer (suc m) s c bytes = tt

supply_fewer : (s : Settings) (c : Catalogue) (bytes : List ℕ) → Fewer (supply s c bytes) (length bytes)
supply_fewer s c [] = tt
supply_fewer s c (code ∷ bytes) =
    cond_fewer (eqb code 2) (when_read (target_in c bytes) onwards) (cond (eqb code 3 || eqb code 5) (opened refusal s c (code ∷ bytes)) (refuses 20)) (suc (length bytes))
    (when_fewer (target_in c bytes) onwards (length bytes) (target_shrinks c bytes) (λ c' rest e. omega arith))
    (cond_fewer (eqb code 3 || eqb code 5) (opened refusal s c (code ∷ bytes)) (refuses 20) (suc (length bytes)) (opened_fewer refusal s c (code ∷ bytes)) tt)
  where
    onwards : Catalogue → List ℕ → Step
    onwards c' = goes [] (supplying s c')

    refusal : ℕ
    refusal = opening_refusal audit_seed audit_offset c (lent_of c) s (started c s).counters

begin_fewer : (bytes : List ℕ) → Fewer (begin bytes) (length bytes)
begin_fewer [] = tt
begin_fewer (code ∷ bytes) =
    cond_fewer (eqb code 1) (when_read (settings_in bytes) onwards) (refuses 20) (suc (length bytes)) (when_fewer (settings_in bytes) onwards (length bytes) (settings_shrink bytes) (λ s rest e. omega arith)) tt
  where
    onwards : Settings → List ℕ → Step
    onwards s = goes [] (supplying s no_targets)

command_fewer : (stage : Stage) (bytes : List ℕ) → Fewer (command stage bytes) (length bytes)
command_fewer beginning bytes = begin_fewer bytes
command_fewer (supplying s c) bytes = supply_fewer s c bytes
command_fewer (running c h) bytes = run_fewer c h bytes

-- ---- the whole stream

-- what follows a command is the same, where that which follows fewer bytes is
same-onward : (f g : Stage → List ℕ → List ℕ) (n : ℕ) → ((stage : Stage) (rest : List ℕ) → length rest < n → f stage rest ≡ g stage rest) → (x : Step) → Fewer x n → onward f x ≡ onward g x
same-onward f g n e (ends out) s = refl
same-onward f g n e (goes out stage rest) s = ap (λ l. out ++ l) (e stage rest s)

-- more commands than bytes write no more
enough : (m n : ℕ) (stage : Stage) (bytes : List ℕ) → length bytes < m → length bytes < n → written m stage bytes ≡ written n stage bytes
unfolding written
enough zero n stage bytes h k = absurd (omega arith)
enough (suc m) zero stage bytes h k = absurd (omega arith)
enough (suc m) (suc n) stage bytes h k =
    same-onward (written m) (written n) (length bytes) (λ stage' rest s. enough m n stage' rest (omega arith) (omega arith)) (command stage bytes) (command_fewer stage bytes)

module _ (stage : Stage) (bytes : List ℕ) where
  -- a command that ends the run
  pub still_ends : (out : List ℕ) → command stage bytes ≡ ends out → still stage bytes ≡ out
  unfolding written
  still_ends out e = ap (onward (written (length bytes))) e

  -- a command behind which the run goes on
  pub still_goes : (out : List ℕ) (stage' : Stage) (rest : List ℕ) → command stage bytes ≡ goes out stage' rest → still stage bytes ≡ out ++ still stage' rest
  unfolding written
  still_goes out stage' rest e =
      let f : Fewer (goes out stage' rest) (length bytes) = rw e at (command_fewer stage bytes) in
      ap (onward (written (length bytes))) e ∙ ap (λ l. out ++ l) (enough (length bytes) (suc (length rest)) stage' rest f (omega arith))

  -- a stage at which the same command is done
  pub still-same : (stage' : Stage) → command stage bytes ≡ command stage' bytes → still stage bytes ≡ still stage' bytes
  unfolding written
  still-same stage' e = ap (onward (written (length bytes))) e
