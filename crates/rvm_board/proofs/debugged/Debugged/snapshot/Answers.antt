use Rattle.std.proofs.Common.{length, ap, subst, sym, ◌∙◌, arith}
use Rattle.rvm_dev.specs.Devices.{DeviceState}
use Rattle.rvm_board.specs.Guest.{AreRising}
use Rattle.rvm_board.specs.Restoring.{IsOf}
use Rattle.rvm_board.proofs.Made.{made}
use Rattle.rvm_board.proofs.debugged.Debugged.snapshot.Goals as goal

pub returns-clause-whole : goal.returns-clause-whole
returns-clause-whole g c =
    let guest = c.args.self.now.guest in
    let devices = c.devices-devices.ensures in
    let mtimecmp = ap (λ (d : DeviceState). length d.mtimecmp) (sym devices.devices) ∙ c.fields-fields.ensures.harts ∙ ap (λ (d : DeviceState). length d.msip) devices.devices ∙ devices.msip in
    let is : IsOf (length guest.board.harts) guest =
    record { harts = cc; msip = devices.msip; mtimecmp = mtimecmp; reservations = devices.reservations; stopped = devices.stopped } in
    made guest is c.hart_parts.ensures.whole

pub returns-clause-held : goal.returns-clause-held
returns-clause-held g c =
    let parts = c.hart_parts.ensures in
    let input = ap length (c.joined.ensures ∙ c.input_bytes.ensures.bytes) in
    let output = ap length (c.joined-2.ensures ∙ c.output_bytes.ensures.bytes) in
    record {
      held = parts.held;
      count = parts.few;
      some = parts.some;
      input = omega (arith, input, c.input_bytes.ensures.bound);
      output = omega (arith, output, c.output_bytes.ensures.bound);
      few = omega (arith, ap length c.copied.ensures.addresses, c.copied.ensures.few);
      rising = subst AreRising (sym c.copied.ensures.addresses) c.copied.ensures.rising;
    }
