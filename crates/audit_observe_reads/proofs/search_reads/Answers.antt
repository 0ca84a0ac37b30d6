-- `audit_observe_reads::search_reads` meets its contract: each read is observed into its part of entries that were set to zero.
use native.Mathlib.Omega.{arith}
use Rattle.index_model.specs.Index.{ranked_sequences}
use Rattle.map_every_start.specs.Entries.{entry_count}
use Rattle.audit_observe_read.specs.Observed.{way_if}
use Rattle.audit_observe_reads.proofs.Fragment.{known_within, both_within, one_refused, one_mapped, two_refused, two_mapped}
use Rattle.audit_observe_reads.proofs.search_reads.Goals as goal

pub overflow_mul-width : goal.overflow_mul-width
overflow_mul-width c = let h = known_within c.args.settings.mode (entry_count c.clear_entries.new.entries) c.share_of-width.result c.share_of-width.ensures in omega arith

pub search_read-one-requires : goal.search_read-one-requires
search_read-one-requires c =
    let p = c.requires in
    let h = known_within c.args.settings.mode (entry_count c.clear_entries.new.entries) c.share_of-width.result c.share_of-width.ensures in record { observable = (p.observable, p.read_passed.0); width_in_bounds = omega arith }

pub returns-in_default : goal.returns-in_default
returns-in_default c =
    let a = c.args in
    one_refused a.settings (ranked_sequences a.targets.bases.now a.targets.ends.now a.targets.ranked.now) (way_if a.indexed a.q) a.targets.ranked.now a.first.now a.first_searched a.second.now a.second_searched a.entries.now _ c.clear_entries.ensures _ c.share_of-width.ensures _ _ c.search_read-one.ensures _ c.in_default.is _ c.clear_entries-in_default.ensures

pub returns-in_default-mode : goal.returns-in_default-mode
returns-in_default-mode c =
    let a = c.args in
    one_mapped a.settings (ranked_sequences a.targets.bases.now a.targets.ends.now a.targets.ranked.now) (way_if a.indexed a.q) a.targets.ranked.now a.first.now a.first_searched a.second.now a.second_searched a.entries.now _ c.clear_entries.ensures _ c.share_of-width.ensures _ _ c.search_read-one.ensures _ c.in-Ok.is c.in_default-mode.is

pub search_second-both-requires : goal.search_second-both-requires
search_second-both-requires c =
    let p = c.requires in
    let h = both_within _ _ _ c.share_of-width.ensures c.in-PairedEnd.is in record { observable = (p.observable, p.read_passed.1); width_in_bounds = omega arith }

pub returns-in-Ok-both : goal.returns-in-Ok-both
returns-in-Ok-both c =
    let a = c.args in
    two_mapped a.settings (ranked_sequences a.targets.bases.now a.targets.ends.now a.targets.ranked.now) (way_if a.indexed a.q) a.targets.ranked.now a.first.now a.first_searched a.second.now a.second_searched a.entries.now _ c.clear_entries.ensures _ c.share_of-width.ensures _ _ c.search_read-one.ensures _ c.in-Ok.is c.in-PairedEnd.is _ _ c.search_second-both.ensures _ c.in-Ok-both.is

pub returns-in-Err : goal.returns-in-Err
returns-in-Err c =
    let a = c.args in
    two_refused a.settings (ranked_sequences a.targets.bases.now a.targets.ends.now a.targets.ranked.now) (way_if a.indexed a.q) a.targets.ranked.now a.first.now a.first_searched a.second.now a.second_searched a.entries.now _ c.clear_entries.ensures _ c.share_of-width.ensures _ _ c.search_read-one.ensures _ c.in-Ok.is c.in-PairedEnd.is _ _ c.search_second-both.ensures _ c.in-Err.is _ c.clear_entries-in-Err.ensures
