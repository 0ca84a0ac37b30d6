-- Lines written out.
use mathlib.Core.Path.{◌≡◌, refl}
use Rattle.catch_text.specs.Text.{text, digits}
use Rattle.map_by_index.specs.declared.work.MappingWork.{MappingWork}
use Rattle.map_answers.specs.Answer.{row}
use Rattle.audit_model.specs.declared.sheet.Status.TheVariants as statuses
use Rattle.audit_model.specs.Sheet.{shown, totals_of}
use Rattle.catch_lines.specs.Lines.{refusal_line, read_line, group_line, count_line, target_line, run_line}

refusal : refusal_line 20 ≡ text "E 20\n"
unfolding digits
refusal = refl

-- whatever work a search took, the places of an indeterminate read are not told, and an unmapped one has none
indeterminate : (w : MappingWork) → read_line 7 1 (row 2 0 w) ≡ text "R 7 R1 2 -\n"
unfolding digits
indeterminate w = refl

unmapped : (w : MappingWork) → read_line 7 0 (row 3 0 w) ≡ text "R 7 S 3 0\n"
unfolding digits
unmapped w = refl

group : group_line (text "u1") 9 10 1 ≡ text "G u1 9 10 -\n"
unfolding digits
group = refl

count : count_line 1 3 128 ≡ text "S R1 3 128\n"
unfolding digits
count = refl

target : target_line (text "u1") (shown statuses.Complete (totals_of 12 3 4)) ≡ text "T u1 12 3 4 placement_enumeration_complete\n"
unfolding digits
target = refl

closed : target_line (text "u2") (shown statuses.ClosedUnsupported (totals_of 0 0 0)) ≡ text "T u2 - - - unavailable_closed_walk_audit_unsupported\n"
closed = refl

run : run_line (shown statuses.RemapDisabled (totals_of 0 0 0)) ≡ text "A unavailable_remap_disabled - - -\n"
run = refl
