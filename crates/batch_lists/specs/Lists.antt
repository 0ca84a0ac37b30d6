-- Many fragments lent as lists, and refusal 25 (REFERENCE.md, "Many fragments").
use Rattle.batch_lists.specs.declared.LentReads.{LentReads}
use Rattle.std.specs.Prelude.{Bool, ◌&&◌, List, [], ◌∷◌, ℕ, zero, suc, ◌+◌, ◌*◌, length, get_or, eqb}
use Rattle.lists.specs.Cut.{cut, ends_within}
use Rattle.lists.specs.Filter.{every}
use Rattle.lists.specs.Sum.{sum}
use Rattle.audit_model.specs.Observing.{MateRead}
use Rattle.audit_model.specs.Fragment.{Fragment}
use Rattle.audit_model.specs.Calls.{mate_of}
use Rattle.audit_codes.specs.Codes.{role_of, is_role, is_mark, is_set}

-- of each read its role, its bases by where they end, whether it has qualities, and these by where they end
pub record ReadLists : Type 0 where
  pub roles : List ℕ
  pub bases : List ℕ
  pub base_ends : List ℕ
  pub marks : List ℕ
  pub qualities : List ℕ
  pub quality_ends : List ℕ

-- of each fragment its ordinal and how many reads it has; and the reads of all fragments
pub record FragmentLists : Type 0 where
  pub ordinals : List ℕ
  pub counts : List ℕ
  pub reads : ReadLists

-- ---- the fragments

-- the read at a place
abbrev pub read_at : ReadLists → ℕ → MateRead
read_at l i = mate_of (role_of (get_or l.roles i 0)) (get_or (cut l.base_ends l.bases) i []) (is_set (get_or l.marks i 0)) (get_or (cut l.quality_ends l.qualities) i [])

-- n reads from a place on
abbrev pub reads_from : ReadLists → ℕ → ℕ → List MateRead
reads_from l at zero = []
reads_from l at (suc n) = read_at l at ∷ reads_from l (suc at) n

-- each fragment with as many reads as it has, those of the first from a place on
abbrev pub fragments_from : ReadLists → ℕ → List ℕ → List ℕ → List Fragment
fragments_from l at [] ns = []
fragments_from l at (o ∷ os) [] = []
fragments_from l at (o ∷ os) (n ∷ ns) = record { ordinal = o; reads = reads_from l at n } ∷ fragments_from l (at + n) os ns

abbrev pub fragments_in : FragmentLists → List Fragment
fragments_in l = fragments_from l.reads 0 l.ordinals l.counts

-- ---- 25

-- bases, a mark and qualities for each of so many reads, and eight numbers for its row
abbrev pub lengths_fit : ℕ → ℕ → ℕ → ℕ → ℕ → Bool
lengths_fit reads bases marks qualities rows = eqb bases reads && eqb marks reads && eqb qualities reads && eqb rows (8 * reads)

-- ends that neither fall nor pass their bytes
abbrev pub ends_fit : ReadLists → Bool
ends_fit l = ends_within 0 (length l.bases) l.base_ends && ends_within 0 (length l.qualities) l.quality_ends

-- roles and marks that there are
abbrev pub codes_fit : ReadLists → Bool
codes_fit l = every is_role l.roles && every is_mark l.marks

-- a count for each ordinal, and in all as many reads as there are roles
abbrev pub counts_fit : FragmentLists → Bool
counts_fit l = eqb (length l.counts) (length l.ordinals) && eqb (sum l.counts) (length l.reads.roles)

-- 25 where this fails, with so many numbers for rows
abbrev pub lists_fit : FragmentLists → ℕ → Bool
lists_fit l rows =
    counts_fit l && lengths_fit (length l.reads.roles) (length l.reads.base_ends) (length l.reads.marks) (length l.reads.quality_ends) rows
    && ends_fit l.reads && codes_fit l.reads

-- ---- what a call is lent

abbrev pub read_lists : List ℕ → List ℕ → List ℕ → List ℕ → List ℕ → List ℕ → ReadLists
read_lists rs bs bes ms qs qes = record { roles = rs; bases = bs; base_ends = bes; marks = ms; qualities = qs; quality_ends = qes }

abbrev pub fragment_lists : List ℕ → List ℕ → ReadLists → FragmentLists
fragment_lists os ns reads = record { ordinals = os; counts = ns; reads = reads }

-- the same, as the slices of a call hold it when the call is made
abbrev pub lent_reads : List ℕ → List ℕ → List ℕ → List ℕ → List ℕ → List ℕ → ReadLists
lent_reads rs bs bes ms qs qes = read_lists rs bs bes ms qs qes

-- those that lent reads hold
abbrev pub reads_in : LentReads → ReadLists
reads_in r = lent_reads r.roles.now r.bases.now r.base_ends.now r.marks.now r.qualities.now r.quality_ends.now

abbrev pub lent_fragments : List ℕ → List ℕ → ReadLists → FragmentLists
lent_fragments os ns reads = fragment_lists os ns reads
