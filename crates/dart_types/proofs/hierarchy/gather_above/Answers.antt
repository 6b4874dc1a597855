use Rattle.std.proofs.Common.{◌≡◌, List, sym, ◌∙◌, ap}
use Rattle.dart_types.specs.Ty.{Ty, types_of}
use Rattle.dart_types.specs.Substitution.{put, by_params}
use Rattle.dart_types.specs.Normal.{normal}
use Rattle.dart_types.specs.Superinterfaces.{interface_of}
use Rattle.dart_types.specs.Replacements.{replaced}
use Rattle.dart_types.specs.Gathering.{IsPut, IsReplaced}
use Rattle.dart_types.specs.declared.ids.VarId.{VarId}
use Rattle.dart_types.specs.declared.replacements.Replacement.{Replacement}
use Rattle.dart_types.proofs.Gathered.{adds_same, on_ok}
use Rattle.dart_types.proofs.hierarchy.gather_above.Goals as goal

-- the replacements put the arguments in for the parameters
pub returns : goal.returns
returns c =
    let rs = c.deref.result.now in
    let list = c.args.known.now.superinterfaces.now in
    let params = c.args.known.now.row.now.params in
    let args = c.args.args.now in
    let items = c.args.known.now.superinterfaces.now in
    let same : (t : Ty) → replaced rs t ≡ normal (put (by_params params (types_of args)) t) = λ t.
    ap (λ (qs : List Replacement). replaced qs t) c.deref.ensures.value
    ∙ c.in_ok-replacements.ensures t
    ∙ ap (λ (ps : List VarId). normal (put (by_params ps (types_of c.as_slice-2.result.now)) t)) c.as_slice.ensures
    ∙ ap (λ (ts : List Ty). normal (put (by_params params (types_of ts)) t)) c.as_slice-2.ensures
    in
    let to : (t : Ty) → IsPut params (types_of args) items t → IsReplaced rs list t = λ t p.
    (p.0, p.1, p.2 ∙ sym (same (interface_of p.0)), p.3)
    in
    let from : (t : Ty) → IsReplaced rs list t → IsPut params (types_of args) items t = λ t p.
    (p.0, p.1, p.2 ∙ same (interface_of p.0), p.3)
    in
    on_ok c.gather.result c.gather.ensures (λ a. adds_same (IsReplaced rs list) (IsPut params (types_of args) items) c.args.list.now.items c.gather.new.list.items a to from)
