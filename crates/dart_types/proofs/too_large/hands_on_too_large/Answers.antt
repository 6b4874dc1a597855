use Rattle.std.proofs.Common.{◌≡◌, ◌<◌, List, sym, ◌∙◌, ap, subst}
use Rattle.dart_types.specs.Ty.{Ty, types_of}
use Rattle.dart_types.specs.Sizes.{size_of}
use Rattle.dart_types.specs.Substitution.{put, by_params}
use Rattle.dart_types.specs.Normal.{normal}
use Rattle.dart_types.specs.Superinterfaces.{interface_of}
use Rattle.dart_types.specs.Replacements.{replaced}
use Rattle.dart_types.specs.declared.ids.VarId.{VarId}
use Rattle.dart_types.specs.declared.replacements.Replacement.{Replacement}
use Rattle.dart_types.specs.declared.refusal.TheConstants.{NODE_LIMIT}
use Rattle.dart_types.proofs.TooLarge.{hands_on}
use Rattle.dart_types.proofs.too_large.hands_on_too_large.Goals as goal

-- the replacements put the arguments in for the parameters
pub returns : goal.returns
returns c =
    let rs = c.deref.result.now in
    let row = c.in-Some.row.now in
    let args = c.args.args.now in
    let same : (t : Ty) → replaced rs t ≡ normal (put (by_params row.params (types_of args)) t) = λ t.
    ap (λ (qs : List Replacement). replaced qs t) c.deref.ensures.value
    ∙ c.in_ok-replacements.ensures t
    ∙ ap (λ (ps : List VarId). normal (put (by_params ps (types_of c.as_slice-2.result.now)) t)) c.as_slice.ensures
    ∙ ap (λ (ts : List Ty). normal (put (by_params row.params (types_of ts)) t)) c.as_slice-2.ensures
    in
    let any = c.is_any_too_large.ensures in
    hands_on c.args.rows.now.table c.args.rows.now.formed c.args.class (types_of args) row (sym c.in-Some.ensures) c.superinterfaces.result.now c.superinterfaces.ensures c.is_any_too_large.result (
      (λ t. let q = any.0 t in (q.0, q.1, subst (λ (x : Ty). NODE_LIMIT < size_of x) (same (interface_of q.0)) q.2)),
      (λ q. any.1 (q.0, q.1, subst (λ (x : Ty). NODE_LIMIT < size_of x) (sym (same (interface_of q.0))) q.2)),
    )
