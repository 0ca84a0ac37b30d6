-- The order and the roles of a fragment, by numbers (REFERENCE.md, "Fragment").
use Rattle.std.specs.Prelude.{Bool, List, [], ◌∷◌, ℕ, zero, suc, replicate, Option}
use Rattle.lists.specs.Same.{same}
use Rattle.promises.specs.Refusal.{unless, ◌or_else◌}
use Rattle.audit_model.specs.declared.settings.AuditInputMode.{AuditInputMode}
use Rattle.audit_model.specs.Settings.{roles_of}
use Rattle.audit_model.specs.Fragment.{in_order}

-- the roles of n reads of which two are lent
abbrev pub lent_roles : ℕ → ℕ → ℕ → List ℕ
lent_roles zero first second = []
lent_roles (suc n) first second = first ∷ replicate n second

abbrev pub roles_fit : AuditInputMode → ℕ → ℕ → ℕ → Bool
roles_fit mode count first second = same (lent_roles count first second) (roles_of mode)

-- 12 and 13
abbrev pub order_refusal : Option ℕ → ℕ → AuditInputMode → ℕ → ℕ → ℕ → ℕ
order_refusal last ordinal mode count first second = unless (in_order last ordinal) 12 or_else unless (roles_fit mode count first second) 13
