-- What the bytes that are there tell of every stream that has a read or a fragment there (REFERENCE.md, "Stream").
use Rattle.std.specs.Prelude.{◌≡◌, List, ◌++◌, ℕ, ◌-◌, ◌≤◌, length, drop, Result, Ok, Err}
use Rattle.catch_commands.specs.declared.Unread.{Unread}
use Rattle.catch_commands.specs.declared.Unread.TheVariants as unread
use Rattle.lists.specs.Cut.{window}
use Rattle.audit_model.specs.Observing.{MateRead}
use Rattle.audit_model.specs.Calls.{mate_of, fragment_reads, fragment_of}
use Rattle.catch_commands.specs.Operands.{parsed}
use Rattle.catch_commands.specs.Commands.{read_in, reads_in, fragment_in}
use Rattle.catch_commands.specs.Telling.{Read, Refused, Short}
use Rattle.catch_fragments.specs.declared.ReadPlace.{ReadPlace}
use Rattle.catch_fragments.specs.declared.FragmentHead.{FragmentHead}

-- a read, with its bases and qualities where they stand
abbrev pub mate_at : List ℕ → ReadPlace → MateRead
mate_at bytes p = mate_of p.role (window bytes p.from (p.middle - p.from)) p.present (window bytes p.middle (p.end - p.middle))

-- its places follow each other, within the bytes
pub record Placed (bytes : List ℕ) (p : ReadPlace) : Type 0 where
  pub bases : p.from ≤ p.middle
  pub qualities : p.middle ≤ p.end
  pub within : p.end ≤ length bytes

-- the longest: a code, six bytes, 4,096 bases and as many qualities
abbrev pub longest_read : ℕ
longest_read = 8199

-- a read that begins at a place of the bytes
abbrev pub ReadTold : List ℕ → ℕ → Result ReadPlace Unread → Type 0
ReadTold bytes at (Ok p) = Placed bytes p × ((more : List ℕ) → read_in (drop at bytes ++ more) ≡ parsed (mate_at bytes p) (drop p.end bytes ++ more))
ReadTold bytes at (Err unread.Wrong) = Refused read_in (drop at bytes)
ReadTold bytes at (Err unread.More) = Short read_in (drop at bytes) longest_read

-- a second read behind the first
pub record PairFound (bytes : List ℕ) (number : ℕ) (before : ReadPlace) (h : FragmentHead) : Type 0 where
  pub ordinal : h.ordinal ≡ number
  pub count : h.count ≡ 2
  pub first : h.first ≡ before
  pub placed : Placed bytes h.second
  pub end : h.end ≡ h.second.end
  pub told : (more : List ℕ) → read_in (drop before.end bytes ++ more) ≡ parsed (mate_at bytes h.second) (drop h.second.end bytes ++ more)

abbrev pub PairTold : List ℕ → ℕ → ReadPlace → Result FragmentHead Unread → Type 0
PairTold bytes ordinal first (Ok h) = PairFound bytes ordinal first h
PairTold bytes ordinal first (Err unread.Wrong) = Refused read_in (drop first.end bytes)
PairTold bytes ordinal first (Err unread.More) = Short read_in (drop first.end bytes) longest_read

-- one read or two behind nine bytes
pub record ReadsFound (bytes : List ℕ) (number reads : ℕ) (h : FragmentHead) : Type 0 where
  pub ordinal : h.ordinal ≡ number
  pub count : h.count ≡ reads
  pub first : Placed bytes h.first
  pub second : Placed bytes h.second
  pub within : h.end ≤ length bytes
  pub told : (more : List ℕ) → reads_in reads (drop 9 bytes ++ more) ≡ parsed (fragment_reads reads (mate_at bytes h.first) (mate_at bytes h.second)) (drop h.end bytes ++ more)

-- the longest two
abbrev pub longest_reads : ℕ
longest_reads = 16398

abbrev pub ReadsTold : List ℕ → ℕ → ℕ → Result FragmentHead Unread → Type 0
ReadsTold bytes ordinal count (Ok h) = ReadsFound bytes ordinal count h
ReadsTold bytes ordinal count (Err unread.Wrong) = Refused (reads_in count) (drop 9 bytes)
ReadsTold bytes ordinal count (Err unread.More) = Short (reads_in count) (drop 9 bytes) longest_reads

-- the longest: nine bytes and two reads
abbrev pub longest_fragment : ℕ
longest_fragment = 16407

abbrev pub FragmentTold : List ℕ → Result FragmentHead Unread → Type 0
FragmentTold bytes (Ok h) =
    Read fragment_in bytes (fragment_of h.ordinal h.count (mate_at bytes h.first) (mate_at bytes h.second)) h.end × Placed bytes h.first × Placed bytes h.second
FragmentTold bytes (Err unread.Wrong) = Refused fragment_in bytes
FragmentTold bytes (Err unread.More) = Short fragment_in bytes longest_fragment
