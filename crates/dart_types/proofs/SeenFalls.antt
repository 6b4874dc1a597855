-- The measure falls from interfaces and function types that are seen to their parts.
use Rattle.std.proofs.Common.{◌≡◌, ℕ, ◌<◌, List, length, get_or, sym, subst}
use Rattle.dart_types.specs.Ty.{Ty, Types, interface, types_of, join, invalid}
use Rattle.dart_types.specs.Named.{named_of}
use Rattle.dart_types.specs.Node.{function_type}
use Rattle.dart_types.specs.Substitution.{put, put_all, put_named}
use Rattle.dart_types.specs.Tables.{Table}
use Rattle.dart_types.specs.WellFormed.{IsWellFormed}
use Rattle.dart_types.specs.Measure.{measure}
use Rattle.dart_types.specs.Forms.{params_of}
use Rattle.dart_types.specs.declared.types.FunctionType.{FunctionType}
use Rattle.dart_types.specs.declared.types.NamedType.{NamedType}
use Rattle.dart_types.specs.declared.ids.ClassId.{ClassId}
use Rattle.dart_types.specs.declared.ids.VarId.{VarId}
use Rattle.dart_types.proofs.MeasureParts.{HasType, arguments_fall, params_fall, names_fall, results_fall}
use Rattle.dart_types.proofs.Names.{has_at}
use Rattle.dart_types.proofs.Places.{has_type, put_all-append}

module _ (table : Table) (wf : IsWellFormed table) (σ τ : VarId → Ty) where
  -- to the arguments at a place
  pub argument_falls : (c : ClassId) (xs ys : List Ty) (i : ℕ) {f g : Ty} → i < length xs → i < length ys → f ≡ put σ (get_or xs i invalid) → g ≡ put τ (get_or ys i invalid) → measure table f g < measure table (interface c (put_all σ (types_of xs))) (interface c (put_all τ (types_of ys)))
  argument_falls c xs ys i {f} {g} h k e e' =
      subst (λ (u : Ty). measure table u g < measure table (interface c (put_all σ (types_of xs))) (interface c (put_all τ (types_of ys)))) (sym e)
      (subst (λ (u : Ty). measure table (put σ (get_or xs i invalid)) u < measure table (interface c (put_all σ (types_of xs))) (interface c (put_all τ (types_of ys)))) (sym e')
      (arguments_fall table wf c c (put_all σ (types_of xs)) (put_all τ (types_of ys)) (has_type σ xs i invalid h) (has_type τ ys i invalid k)))

  has_param : (ρ : VarId → Ty) (f : FunctionType) (i : ℕ) → i < length (params_of f) → HasType (join (put_all ρ (types_of f.required)) (put_all ρ (types_of f.optional))) (put ρ (get_or (params_of f) i invalid))
  has_param ρ f i h = subst (λ (ts : Types). HasType ts (put ρ (get_or (params_of f) i invalid))) (put_all-append ρ f.required f.optional) (has_type ρ (params_of f) i invalid h)

  module _ (f g : FunctionType) where
    abbrev Whole : ℕ
    Whole = measure table (put σ (function_type f)) (put τ (function_type g))

    -- to positional parameters, which change sides
    pub param_falls : (i j : ℕ) {p q : Ty} → i < length (params_of f) → j < length (params_of g) → p ≡ put σ (get_or (params_of f) i invalid) → q ≡ put τ (get_or (params_of g) j invalid) → measure table q p < Whole
    param_falls i j {p} {q} h k e e' =
        subst (λ (u : Ty). measure table q u < Whole) (sym e)
        (subst (λ (u : Ty). measure table u (put σ (get_or (params_of f) i invalid)) < Whole) (sym e')
        (params_fall table wf (put_all σ (types_of f.required)) (put_all σ (types_of f.optional)) (put_all τ (types_of g.required)) (put_all τ (types_of g.optional)) (put_named σ (named_of f.named)) (put_named τ (named_of g.named)) (put σ f.result) (put τ g.result) (has_param σ f i h) (has_param τ g j k)))

    -- to named parameters, likewise
    pub name_falls : (i j : ℕ) (d e : NamedType) {p q : Ty} → i < length f.named → j < length g.named → p ≡ put σ (get_or f.named i d).ty → q ≡ put τ (get_or g.named j e).ty → measure table q p < Whole
    name_falls i j d e {p} {q} h k is is' =
        subst (λ (u : Ty). measure table q u < Whole) (sym is)
        (subst (λ (u : Ty). measure table u (put σ (get_or f.named i d).ty) < Whole) (sym is')
        (names_fall table wf (put_all σ (types_of f.required)) (put_all σ (types_of f.optional)) (put_all τ (types_of g.required)) (put_all τ (types_of g.optional)) (put_named σ (named_of f.named)) (put_named τ (named_of g.named)) (put σ f.result) (put τ g.result) (has_at σ f.named i d h) (has_at τ g.named j e k)))

    -- and to results
    pub result_falls : {p q : Ty} → p ≡ put σ f.result → q ≡ put τ g.result → measure table p q < Whole
    result_falls {p} {q} e e' =
        subst (λ (u : Ty). measure table u q < Whole) (sym e)
        (subst (λ (u : Ty). measure table (put σ f.result) u < Whole) (sym e')
        (results_fall table wf (put_all σ (types_of f.required)) (put_all σ (types_of f.optional)) (put_all τ (types_of g.required)) (put_all τ (types_of g.optional)) (put_named σ (named_of f.named)) (put_named τ (named_of g.named)) (put σ f.result) (put τ g.result)))
