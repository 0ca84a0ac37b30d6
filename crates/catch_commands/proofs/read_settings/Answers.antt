-- `catch_commands::read_settings` meets its contract: eleven bytes with two marks, whatever follows them.
use native.Mathlib.Omega.{arith}
use lib.ListN.{get_or}
use Rattle.catch_commands.proofs.Settings.{settings_short, no_mode, no_remap, settings_read}
use Rattle.catch_commands.proofs.read_settings.Goals as goal

pub returns-then-bytes-lt11 : goal.returns-then-bytes-lt11
returns-then-bytes-lt11 c = settings_short _ (omega arith)

pub returns-then-mode-gt1 : goal.returns-then-mode-gt1
returns-then-mode-gt1 c = no_mode c.args.bytes.now (omega arith) (omega arith)

pub returns-then-remap-gt1 : goal.returns-then-remap-gt1
returns-then-remap-gt1 c = no_remap c.args.bytes.now (omega arith) (omega arith) (omega arith)

pub returns : goal.returns
returns c =
    let b = c.args.bytes.now in
    settings_read b (omega arith) (omega arith) _ (get_or b 1 0) _ _ c.mode_of.ensures (omega arith) (omega arith) c.little_endian.ensures (omega arith)
