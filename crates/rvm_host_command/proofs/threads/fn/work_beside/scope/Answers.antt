use Rattle.std.proofs.Crossing.{crosses, send}
use denote.Param.Send.{sendable}
use Rattle.rvm_host.proofs.Sends.{host_send}
use Rattle.rvm_host_command.proofs.threads.fn.work_beside.scope.Goals as goal

pub spawn-requires-send-F : goal.spawn-requires-send-F
spawn-requires-send-F g c κs within =
    let heap = send in
    let rt = c.requires.0.0 in
    let memory = c.requires.0.1 in
    let log = c.requires.0.2 in
    let stream = c.requires.0.3 in
    let listener = c.requires.0.4 in
    search (host_send, sendable, crosses) depth 80 fits 80000

pub spawn-requires-then-begun-send-F : goal.spawn-requires-then-begun-send-F
spawn-requires-then-begun-send-F g c κs within =
    let heap = send in
    let rt = c.requires.0.0 in
    let memory = c.requires.0.1 in
    let log = c.requires.0.2 in
    let stream = c.requires.0.3 in
    let listener = c.requires.0.4 in
    search (host_send, sendable, crosses) depth 80 fits 80000

pub spawn-requires-then-begun-2-send-F : goal.spawn-requires-then-begun-2-send-F
spawn-requires-then-begun-2-send-F g c κs within =
    let heap = send in
    let rt = c.requires.0.0 in
    let memory = c.requires.0.1 in
    let log = c.requires.0.2 in
    let stream = c.requires.0.3 in
    let listener = c.requires.0.4 in
    search (host_send, sendable, crosses) depth 80 fits 80000

pub spawn-requires-then-begun-3-send-F : goal.spawn-requires-then-begun-3-send-F
spawn-requires-then-begun-3-send-F g c κs within =
    let heap = send in
    let rt = c.requires.0.0 in
    let memory = c.requires.0.1 in
    let log = c.requires.0.2 in
    let stream = c.requires.0.3 in
    let listener = c.requires.0.4 in
    search (host_send, sendable, crosses) depth 80 fits 80000
