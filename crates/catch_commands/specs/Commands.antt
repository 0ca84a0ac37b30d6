-- What stands behind the code of a command (REFERENCE.md, "Stream").
use Rattle.std.specs.Prelude.{Bool, true, false, cond, ◌&&◌, List, [], ◌∷◌, ◌++◌, ℕ, zero, suc, ◌+◌, length, get_or, take, drop, eqb, leb, ltb}
use Rattle.lists.specs.Filter.{every}
use Rattle.catalogue.specs.Catalogue.{Catalogue}
use Rattle.audit_model.specs.declared.settings.Settings.{Settings}
use Rattle.audit_model.specs.Observing.{MateRead}
use Rattle.audit_model.specs.Fragment.{Fragment}
use Rattle.audit_model.specs.Calls.{mate_of}
use Rattle.audit_codes.specs.Codes.{mode_of, role_of, is_role, is_mark, is_set}
use Rattle.catch_commands.specs.Operands.{Parsed, parsed, wrong, short, ◌followed_by◌, bytes_in, little_endian}

-- ---- bounds

abbrev pub max_stream_targets : ℕ
max_stream_targets = 16

abbrev pub max_stream_bases : ℕ
max_stream_bases = 1024

abbrev pub max_stream_read : ℕ
max_stream_read = 4096

abbrev pub max_stream_reads : ℕ
max_stream_reads = 2

-- ---- tests

-- something, where a test passes
abbrev pub provided : {A : Type 0} → Bool → A → List ℕ → Parsed A
provided true a bytes = parsed a bytes
provided false a bytes = wrong

-- ---- 01: mode, remap, floor, limit of 8 bytes

abbrev pub settings_of : List ℕ → Settings
settings_of h = record { mode = mode_of (get_or h 0 0); remap = is_set (get_or h 1 0); floor = get_or h 2 0; limit = little_endian (drop 3 h) }

abbrev pub settings_in : List ℕ → Parsed Settings
settings_in bytes = bytes_in 11 bytes followed_by λ h. provided (is_mark (get_or h 0 0) && is_mark (get_or h 1 0)) (settings_of h)

-- ---- 02: topology, identifier length, base count of 4 bytes, then both

-- printable, and no space
abbrev pub is_name_byte : ℕ → Bool
is_name_byte b = leb 33 b && leb b 126

-- a catalogue with a target behind its others
abbrev pub with_target : Catalogue → ℕ → List ℕ → List ℕ → Catalogue
with_target c topology identifier bases =
    record {
      identifiers = c.identifiers ++ identifier;
      identifier_ends = c.identifier_ends ++ length (c.identifiers ++ identifier) ∷ [];
      bases = c.bases ++ bases;
      base_ends = c.base_ends ++ length (c.bases ++ bases) ∷ [];
      marks = c.marks ++ topology ∷ [];
    }

-- a topology and an identifier that is not empty, behind so many targets and bases: no more targets than 16, and no more bases in all than 1,024
abbrev pub target_fits : ℕ → ℕ → ℕ → ℕ → ℕ → Bool
target_fits topology name count targets held = is_mark topology && leb 1 name && ltb targets max_stream_targets && leb (held + count) max_stream_bases

abbrev pub target_right : Catalogue → List ℕ → Bool
target_right c h = target_fits (get_or h 0 0) (get_or h 1 0) (little_endian (drop 2 h)) (length c.marks) (length c.bases)

-- the head is judged first, and the identifier once all is there
abbrev pub target_in : Catalogue → List ℕ → Parsed Catalogue
target_in c bytes =
    bytes_in 6 bytes followed_by λ h rest.
    cond (target_right c h)
    (bytes_in (get_or h 1 0) rest followed_by λ identifier behind.
    bytes_in (little_endian (drop 2 h)) behind followed_by λ bases.
    provided (every is_name_byte identifier) (with_target c (get_or h 0 0) identifier bases))
    wrong

-- ---- 04: role, quality mark, length of 4 bytes, bases, qualities where the mark is 1

-- the number of qualities behind so many bases: as many where the mark is 1
abbrev pub qualities_of : ℕ → ℕ → ℕ
qualities_of mark count = cond (is_set mark) count 0

abbrev pub quality_count : List ℕ → ℕ
quality_count h = qualities_of (get_or h 1 0) (little_endian (drop 2 h))

-- a role, a mark, and no more bases than 4,096
abbrev pub read_fits : ℕ → ℕ → ℕ → Bool
read_fits role mark count = is_role role && is_mark mark && leb count max_stream_read

abbrev pub read_right : List ℕ → Bool
read_right h = read_fits (get_or h 0 0) (get_or h 1 0) (little_endian (drop 2 h))

-- what stands behind the code, the head judged first
abbrev pub read_operands : List ℕ → Parsed MateRead
read_operands bytes =
    bytes_in 6 bytes followed_by λ h rest.
    cond (read_right h)
    (bytes_in (little_endian (drop 2 h)) rest followed_by λ bases behind.
    bytes_in (quality_count h) behind followed_by λ qualities.
    parsed (mate_of (role_of (get_or h 0 0)) bases (is_set (get_or h 1 0)) qualities))
    wrong

-- with the code
abbrev pub read_in : List ℕ → Parsed MateRead
read_in [] = short
read_in (code ∷ bytes) = cond (eqb code 4) (read_operands bytes) wrong

-- ---- 03: ordinal of 8 bytes, read count, and as many 04s

abbrev pub reads_in : ℕ → List ℕ → Parsed (List MateRead)
reads_in zero bytes = parsed [] bytes
reads_in (suc n) bytes = read_in bytes followed_by λ r rest. reads_in n rest followed_by λ rs. parsed (r ∷ rs)

abbrev pub fragment_in : List ℕ → Parsed Fragment
fragment_in bytes =
    bytes_in 9 bytes followed_by λ h rest.
    cond (leb (get_or h 8 0) max_stream_reads) (reads_in (get_or h 8 0) rest followed_by λ reads. parsed (record { ordinal = little_endian (take 8 h); reads = reads })) wrong
