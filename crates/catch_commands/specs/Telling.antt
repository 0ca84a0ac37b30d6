-- What the bytes that are there tell of every stream that begins with them (REFERENCE.md, "Stream").
use Rattle.std.specs.Prelude.{◌≡◌, List, ◌++◌, ℕ, ◌+◌, ◌≤◌, ◌<◌, length, drop, Result, Ok, Err}
use Rattle.audit_model.specs.declared.settings.Settings.{Settings}
use Rattle.catch_commands.specs.declared.Unread.{Unread}
use Rattle.catch_commands.specs.declared.Unread.TheVariants as unread
use Rattle.lists.specs.Cut.{window}
use Rattle.catalogue.specs.Catalogue.{Catalogue, max_identifier}
use Rattle.catch_commands.specs.declared.TargetHead.{TargetHead}
use Rattle.catch_commands.specs.Operands.{Parsed, parsed, wrong, short}
use Rattle.catch_commands.specs.Commands.{max_stream_targets, max_stream_bases, settings_in, with_target, target_in}

-- ---- three ways to be told

module _ {A : Type 0} (parser : List ℕ → Parsed A) (bytes : List ℕ) where
  -- whatever follows, the stream has this, and what follows it are the bytes from `end` on and the rest
  pub record Read (a : A) (end : ℕ) : Type 0 where
    pub within : end ≤ length bytes
    pub told : (more : List ℕ) → parser (bytes ++ more) ≡ parsed a (drop end bytes ++ more)

  -- whatever follows, the stream is refused
  abbrev pub Refused : Type 0
  Refused = (more : List ℕ) → parser (bytes ++ more) ≡ wrong

  -- more is needed: the bytes end before it is whole, and there are fewer than the longest can have
  pub record Short (most : ℕ) : Type 0 where
    pub ended : parser bytes ≡ short
    pub few : length bytes < most

-- ---- commands

abbrev pub SettingsTold : List ℕ → Result Settings Unread → Type 0
SettingsTold bytes (Ok s) = Read settings_in bytes s 11
SettingsTold bytes (Err unread.Wrong) = Refused settings_in bytes
SettingsTold bytes (Err unread.More) = Short settings_in bytes 11

-- a target, with the identifier and the bases where they stand
abbrev pub target_at : Catalogue → List ℕ → TargetHead → Catalogue
target_at c bytes h = with_target c h.topology (window bytes 6 h.name) (window bytes (6 + h.name) h.count)

-- the longest: six bytes, an identifier of 255, and all bases
abbrev pub longest_target : ℕ
longest_target = 1285

-- a target within the bounds of a stream, behind so many targets and bases
pub record TargetWithin (targets held : ℕ) (h : TargetHead) : Type 0 where
  pub one : targets < max_stream_targets
  pub identifier : h.name ≤ max_identifier
  pub bases : held + h.count ≤ max_stream_bases

abbrev pub TargetTold : Catalogue → List ℕ → Result TargetHead Unread → Type 0
TargetTold c bytes (Ok h) = Read (target_in c) bytes (target_at c bytes h) (6 + h.name + h.count) × TargetWithin (length c.marks) (length c.bases) h
TargetTold c bytes (Err unread.Wrong) = Refused (target_in c) bytes
TargetTold c bytes (Err unread.More) = Short (target_in c) bytes longest_target

-- of every catalogue with so many targets and bases
abbrev pub TargetsTold : ℕ → ℕ → List ℕ → Result TargetHead Unread → Type 0
TargetsTold targets held bytes r = (c : Catalogue) → length c.marks ≡ targets → length c.bases ≡ held → TargetTold c bytes r
