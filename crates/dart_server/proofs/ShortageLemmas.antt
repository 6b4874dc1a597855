-- The sink's count of wants of memory at the ends of serving.
use Rattle.std.proofs.Common.{◌≡◌, ◌≢◌, ℕ, refl}
use Rattle.fault_io.specs.Faults.{Rose}
use Rattle.serve_loop.specs.declared.end.ServeEnd.{ServeEnd}
use Rattle.serve_loop.specs.declared.end.ServeEnd.TheVariants.{Done, InputSpent, ReadFault, WriteFault, Memory, SinkMemory}
use Rattle.dart_server.specs.Output.{CountsShortage}

-- it rises at the one end, and stays at the others
pub counts_shortage : (end : ServeEnd) (old new : ℕ) → (end ≡ SinkMemory → Rose old new) → (end ≢ SinkMemory → new ≡ old) → CountsShortage end old new
counts_shortage SinkMemory old new rises stays = rises refl
counts_shortage Done old new rises stays = stays (λ is. cc)
counts_shortage InputSpent old new rises stays = stays (λ is. cc)
counts_shortage ReadFault old new rises stays = stays (λ is. cc)
counts_shortage WriteFault old new rises stays = stays (λ is. cc)
counts_shortage Memory old new rises stays = stays (λ is. cc)
