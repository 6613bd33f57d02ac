use Rattle.std.proofs.Common.{◌≡◌, ◌-◌, [], ◌∷◌, ◌++◌, length, take, get_or, ap, sym, ◌∙◌, refl, arith, append_assoc}
use Rattle.std.proofs.lemmas.List.{length-take-le}
use Rattle.tiff_dir.specs.Packets.{Copied, Repeated}
use Rattle.packbits.proofs.packing.push_packet.Goals as goal

pub returns-then-run-gt1 : goal.returns-then-run-gt1
returns-then-run-gt1 c =
    let run = c.run_len-run.result in
    let old = c.args.packed.now.items in
    let first = get_or c.args.bytes.now 0 0 in
    record {
      packet = Repeated run first;
      lawful = (omega (arith, c.if-run-gt1.true), omega (arith, c.run_len-run.ensures.few));
      some = omega (arith, c.if-run-gt1.true);
      within = c.run_len-run.ensures.within;
      added = c.in_ok-push-2.ensures.items ∙ ap (λ l. l ++ first ∷ []) c.in_ok-push.ensures.items ∙ append_assoc old ((257 - run) ∷ []) (first ∷ []);
      text_is = c.run_len-run.ensures.equal;
    }

pub returns : goal.returns
returns c =
    let len = c.copy_len-len.result in
    let old = c.args.packed.now.items in
    let part = take len c.args.bytes.now in
    let size : length part ≡ len = length-take-le len c.args.bytes.now c.copy_len-len.ensures.within in
    record {
      packet = Copied part;
      lawful = (omega (arith, size, c.copy_len-len.ensures.some), omega (arith, size, c.copy_len-len.ensures.few));
      some = omega (arith, c.copy_len-len.ensures.some);
      within = c.copy_len-len.ensures.within;
      added = c.in_ok-extend_from_slice.ensures.items ∙ ap (λ l. l ++ part) c.in_ok-push-3.ensures.items ∙ append_assoc old ((len - 1) ∷ []) part
          ∙ ap (λ k. old ++ ((k - 1) ∷ part)) (sym size);
      text_is = refl;
    }
