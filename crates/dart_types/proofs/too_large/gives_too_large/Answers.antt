use Rattle.std.proofs.Common.{◌≡◌, ◌<◌, ◌↔◌, IsTrue, List, sym, ◌∙◌, ap, subst}
use Rattle.dart_types.specs.Ty.{Ty, interface, types_of}
use Rattle.dart_types.specs.Sizes.{size_of}
use Rattle.dart_types.specs.Normal.{normal}
use Rattle.dart_types.specs.Gathering.{itself, GivesTooLarge}
use Rattle.dart_types.specs.Node.{type_of}
use Rattle.dart_types.specs.declared.refusal.TheConstants.{NODE_LIMIT}
use Rattle.dart_types.proofs.Steps.{yes, no, granted, refused}
use Rattle.dart_types.proofs.TooLarge.{interface_gives, other_gives, if_ok}
use Rattle.dart_types.proofs.too_large.gives_too_large.Goals as goal

pub returns-then-is_itself_too_large : goal.returns-then-is_itself_too_large
returns-then-is_itself_too_large c =
    yes (c.args.v.now, itself, granted c.is_itself_too_large.ensures c.if-is_itself_too_large.true)

pub returns-in-Interface : goal.returns-in-Interface
returns-in-Interface c =
    let table = c.args.rows.now.table in
    let class = c.in-Interface.class in
    let ts = types_of c.deref.result.now in
    let is : interface class ts ≡ c.args.v.now =
    ap (λ (us : List Ty). interface class (types_of us)) c.deref.ensures ∙ sym (ap type_of c.in-Interface.is) ∙ c.v.view_is in
    let small : NODE_LIMIT < size_of (normal (interface class ts)) → ⊥ =
    subst (λ (t : Ty). NODE_LIMIT < size_of (normal t) → ⊥) (sym is) (refused c.is_itself_too_large.ensures c.if-is_itself_too_large.false) in
    if_ok c.hands_on_too_large.result c.hands_on_too_large.ensures (λ b h. subst (λ (t : Ty). IsTrue b ↔ GivesTooLarge table t) is (interface_gives table c.args.rows.now.formed class ts small b h))

-- a type of another form
pub returns-in_default : goal.returns-in_default
returns-in_default c =
    let table = c.args.rows.now.table in
    no (λ g. other_gives table c.args.rows.now.formed c.v.inside.node c.in_default.not-Interface
    (subst (λ (t : Ty). NODE_LIMIT < size_of (normal t) → ⊥) (sym c.v.view_is) (refused c.is_itself_too_large.ensures c.if-is_itself_too_large.false))
    (subst (λ (t : Ty). GivesTooLarge table t) (sym c.v.view_is) g))
