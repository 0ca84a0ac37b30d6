-- `bases::eligibility::all_bases` meets its contract: bases are letters where no byte has the mark.
use Rattle.std.proofs.Common.{◌≡◌, ◌∙◌, refl, sym, ap₂, Bool, not, ◌&&◌, List, [], ◌∷◌, ℕ, eqb, rules}
use Rattle.std.specs.List.{list_all}
use Rattle.std.proofs.lemmas.Iterator.{YieldsList-from_slice}
use Rattle.std.proofs.lemmas.Iterator.Search.{all_from_yields_List}
use borrow.Author.Tests.{tests}
use Rattle.bases.specs.Base.{code_of, mark}
use Rattle.bases.specs.Read.{letters}
use Rattle.bases.proofs.Bytes.{letter_code}
use Rattle.bases.proofs.eligibility.all_bases.Goals as goal

none_marked : (bs : List ℕ) → list_all (λ b. not (eqb (code_of b) mark)) bs ≡ letters bs
none_marked [] = refl
none_marked (b ∷ bs) = ap₂ {C = Bool} (λ x y. x && y) (sym (letter_code b)) (none_marked bs)

pub returns : goal.returns
returns c = all_from_yields_List _ _ _ _ c.all.ensures.ran (YieldsList-from_slice c.args.bases.now cc) (λ x b q k. search (rules, tests)) ∙ none_marked _
