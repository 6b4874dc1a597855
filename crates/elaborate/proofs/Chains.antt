-- A local's current type is a subtype of its declared one and of each that it is promoted to, so one of which more is said has a narrower type.
use Rattle.std.proofs.Common.{◌≡◌, true, ◌||◌, List, [], ◌∷◌, refl, sym, ap, subst, ◌∙◌, ◌⊎◌, inl, inr, IsTrue}
use Rattle.std.proofs.lemmas.Bool.{or_cases, or_right}
use Rattle.dart_types.specs.Ty.{Ty}
use Rattle.dart_types.specs.Same.{same_type}
use Rattle.dart_types.specs.Sub.{Sub, reflexivity}
use Rattle.dart_types.specs.SubTest.{sub}
use Rattle.flow_model.specs.Chains.{Descends, HasDescendingChain}
use Rattle.flow_model.specs.Flow.{current_of, last_or}
use Rattle.flow_model.specs.Order.{SaysMore}
use Rattle.flow_model.specs.TypeTests.{is_in}
use Rattle.flow_model.specs.declared.locals.Facts.{Facts}
use Rattle.elaborate.proofs.Given.{Setting, Laws}

module _ (c : Setting) (laws : Laws c) where
  -- subtypes of subtypes are subtypes
  pub below : (s t u : Ty) → Sub c.rows.table s t → Sub c.rows.table t u → Sub c.rows.table s u
  below s t u = laws.types.sub_transitive laws.out s t u

  -- the same by the test
  pub sub_itself : (t : Ty) → IsTrue (sub c.rows.table t t)
  sub_itself t = laws.types.sub_complete t t reflexivity

  pub sub_through : (s t u : Ty) → IsTrue (sub c.rows.table s t) → IsTrue (sub c.rows.table t u) → IsTrue (sub c.rows.table s u)
  sub_through s t u first second = laws.types.sub_complete s u (below s t u (laws.types.sub_sound s t first) (laws.types.sub_sound t u second))

  -- the last of types that descend is below the first
  pub last_below : (t : Ty) (chain : List Ty) → Descends c.rows.table t chain → Sub c.rows.table (last_or t chain) t
  last_below t [] descends = reflexivity
  last_below t (u ∷ us) descends = below (last_or u us) u t (last_below u us descends.1) descends.0

  -- and below each
  last_below_each : (t : Ty) (chain : List Ty) (v : Ty) → Descends c.rows.table t chain → is_in chain v ≡ true → Sub c.rows.table (last_or t chain) v
  last_below_each t [] v descends here = absurd cc
  last_below_each t (u ∷ us) v descends here = elim (or_cases (same_type v u) (is_in us v) here) [
    | inl same ↦ subst (λ (w : Ty). Sub c.rows.table (last_or u us) w) (sym (laws.types.types.equal_from_same_type v u same)) (last_below u us descends.1)
    | inr behind ↦ last_below_each u us v descends.1 behind
  ]

  -- the last of types is the first, or one of those behind it
  pub last_among : (t : Ty) (chain : List Ty) → (last_or t chain ≡ t) ⊎ (is_in chain (last_or t chain) ≡ true)
  last_among t [] = inl refl
  last_among t (u ∷ us) = elim (last_among u us) [
    | inl same ↦ inr (ap (λ b. b || is_in us (last_or u us)) (subst (λ (w : Ty). same_type w u ≡ true) (sym same) (laws.types.types.same_type-refl u)))
    | inr behind ↦ inr (or_right (same_type (last_or u us) u) (is_in us (last_or u us)) behind)
  ]

  -- a local of which more is said has a narrower type
  pub narrower : (l m : Facts) → HasDescendingChain c.rows.table l → SaysMore l m → Sub c.rows.table (current_of l) (current_of m)
  narrower l m descends more = elim (last_among m.ty m.chain) [
    | inl same ↦ subst (λ (w : Ty). Sub c.rows.table (current_of l) w) (more.declared ∙ sym same) (last_below l.ty l.chain descends)
    | inr among ↦ last_below_each l.ty l.chain (current_of m) descends (more.chain.each (current_of m) among)
  ]
