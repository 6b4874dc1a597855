-- The names that combinators let pass.
use Rattle.std.specs.Prelude.{ℕ, Bool, ◌&&◌, not, List}
use Rattle.std.specs.List.{list_all, list_any}
use Rattle.element_terms.specs.declared.combinators.Combinator.{Combinator}
use Rattle.element_terms.specs.declared.combinators.Combinator.TheVariants.{Show, Hide}
use Rattle.element_terms.specs.NameTexts.{is_private, means}

-- a written name means it
abbrev pub is_among : List (List ℕ) → List ℕ → Bool
is_among names name = list_any (λ written. means written name) names

-- `show` lets the names pass that are among its own, `hide` the others
abbrev pub lets_pass : Combinator → List ℕ → Bool
lets_pass (Show names) name = is_among names name
lets_pass (Hide names) name = not (is_among names name)

-- an import or an export brings the names that are no library's own and that each combinator lets pass
abbrev pub brings : List Combinator → List ℕ → Bool
brings combinators name = not (is_private name) && list_all (λ c. lets_pass c name) combinators
