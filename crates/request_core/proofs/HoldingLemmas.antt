-- What a checker that holds the contents of its session says of a file.
use Rattle.std.proofs.Common.{◌≡◌, ℕ, Bool, true, false, ◌&&◌, ◌||◌, List, [], inl, inr, refl, sym, ap, ◌∙◌, subst}
use Rattle.std.specs.Prelude.{is_some}
use Rattle.std.proofs.lemmas.Bool.{false≢true}
use Rattle.judgement.specs.declared.fault.Fault.{Fault}
use Rattle.proto_json.specs.declared.code.Code.TheVariants.{GetErrorsInvalidFile}
use Rattle.load_files.specs.Paths.{is_library}
use Rattle.load_files.specs.Tables.{contents_at}
use Rattle.overlays.specs.Tables.{text_in}
use Rattle.protocol_rules.specs.Files.{is_analyzed, is_included, AreDiagnosticsOf}
use Rattle.protocol_rules.specs.State.{State}
use Rattle.protocol_rules.specs.Turns.{Turn, IsErrorsTurnIf, errors_turn, refused_turn}
use Rattle.request_core.specs.Holding.{HasNoFile, Holds}

-- where there is no file none is analyzed
nothing_analyzed : (s : State) (path : List ℕ) → HasNoFile s → is_analyzed s path ≡ false
unfolding text_in contents_at
nothing_analyzed s path none =
    rw (none.no_overlays, none.no_snapshot)
    (elim (is_library path) as (λ b. ((b && is_some (text_in path [])) || (is_some (contents_at path []) && is_included s.roots path)) ≡ false) [ true ↦ refl | false ↦ refl ])

-- a file that is analyzed in a session is analyzed by its checker
pub analyzed_held : (held contents : State) (path : List ℕ) → Holds held contents → is_analyzed contents path ≡ true → is_analyzed held path ≡ true
analyzed_held held contents path (inl same) analyzed = ap (λ (s : State). is_analyzed s path) same ∙ analyzed
analyzed_held held contents path (inr none) analyzed = absurd (false≢true (sym (nothing_analyzed contents path none) ∙ analyzed))

-- and has the same diagnostics
pub diagnostics_held : (held contents : State) (path : List ℕ) (faults : List Fault) → Holds held contents → is_analyzed contents path ≡ true → AreDiagnosticsOf held path faults → AreDiagnosticsOf contents path faults
diagnostics_held held contents path faults (inl same) analyzed are = subst (λ (s : State). AreDiagnosticsOf s path faults) same are
diagnostics_held held contents path faults (inr none) analyzed are = absurd (false≢true (sym (nothing_analyzed contents path none) ∙ analyzed))

-- the turn of the errors of a file that is analyzed
pub errors_are : (s : State) (id file : List ℕ) (faults : List Fault) (t : Turn) → is_analyzed s file ≡ true → AreDiagnosticsOf s file faults → t ≡ errors_turn s id file faults → IsErrorsTurnIf (is_analyzed s file) s id file t
errors_are s id file faults t analyzed are is =
    subst (λ (b : Bool). IsErrorsTurnIf b s id file t) (sym analyzed) (record { faults = faults; diagnostics = are; turn = is })

-- the turn of one that isn't
pub refused_are : (s : State) (id file : List ℕ) (t : Turn) → is_analyzed s file ≡ false → t ≡ refused_turn s id GetErrorsInvalidFile → IsErrorsTurnIf (is_analyzed s file) s id file t
refused_are s id file t other is = subst (λ (b : Bool). IsErrorsTurnIf b s id file t) (sym other) is
