use Rattle.std.proofs.Common.{◌≡◌, ◌+◌, ◌-◌, ◌*◌, sym, ap, ◌∙◌, arith}
use borrow.Rule.Slice.PartMut.{put_mid}
use Rattle.disk.proofs.Images.{written_put}
use Rattle.disk.proofs.image.calls.copy_in.Goals as goal

pub returns : goal.returns
returns c =
    let at = c.args.sector * 512 in
    let width : at + 512 - at ≡ 512 = omega arith in
    ap (λ n. put_mid at n c.args.image.now c.copy_from_slice.new.self) width ∙
    ap (put_mid at 512 c.args.image.now) c.copy_from_slice.ensures.after ∙
    sym (written_put c.args.image.now c.args.sector c.args.buffer.now c.requires.0 c.requires.1)
