use Rattle.std.proofs.Common.{◌≡◌, ℕ, ◌<◌, length, sym, ap, subst, ◌∙◌}
use Rattle.check_files.proofs.Sizes.{elements_size}
use Rattle.check_files.proofs.links.link_read.Goals as goal

pub exports-requires : goal.exports-requires
exports-requires c =
    let size : length c.as_slice-6.result.now ≡ length c.args.read.sources.items =
    ap length c.as_slice-6.ensures.value ∙ (ap length c.in_ok-elements.ensures ∙ (elements_size _ _ _ 0 c.as_slice-3.result.now ∙ ap length c.as_slice-3.ensures.value)) in
    subst (λ (n : ℕ). n < 4294967296) (sym size) c.requires
