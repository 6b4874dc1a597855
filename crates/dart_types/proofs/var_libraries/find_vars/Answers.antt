use Rattle.std.proofs.Common.{◌≡◌, ℕ, get_or, Some, sym, ap, ◌∙◌, arith}
use Rattle.dart_types.specs.declared.var_libraries.LibraryVars.{LibraryVars}
use Rattle.dart_types.proofs.Groups.{group_found, group_none, group_none_at_end}
use Rattle.dart_types.proofs.var_libraries.find_vars.Goals as goal

abbrev lib : LibraryVars → ℕ
lib l = l.lib.0

pub returns-then-at-libraries : goal.returns-then-at-libraries
returns-then-at-libraries c =
    sym (group_none_at_end lib c.args.libraries.now c.requires c.args.lib.0 c.place_of_library-at.result c.place_of_library-at.ensures.parts (omega arith))

-- the library stands at the place
pub returns-then-library-lib : goal.returns-then-library-lib
returns-then-library-lib c =
    let here : c.library-library.result.now ≡ get_or c.args.libraries.now c.place_of_library-at.result c.index-libraries-at.result = c.library-library.ensures ∙ c.index-libraries-at.is in
    ap (λ (l : LibraryVars). Some l) here
    ∙ sym (group_found lib c.args.libraries.now c.requires c.args.lib.0 c.place_of_library-at.result c.place_of_library-at.ensures.parts c.index-libraries-at.result (omega arith) (ap lib (sym here) ∙ c.if-library-lib.true))

-- another stands there
pub returns-else-library-lib : goal.returns-else-library-lib
returns-else-library-lib c =
    let here : c.library-library.result.now ≡ get_or c.args.libraries.now c.place_of_library-at.result c.index-libraries-at.result = c.library-library.ensures ∙ c.index-libraries-at.is in
    sym (group_none lib c.args.libraries.now c.requires c.args.lib.0 c.place_of_library-at.result c.place_of_library-at.ensures.parts c.index-libraries-at.result c.place_of_library-at.ensures.bound (λ lt e. c.if-library-lib.false (ap lib here ∙ e)))
