-- Register by register.
use Rattle.std.proofs.Common.{refl}
use Rattle.isa.specs.declared.device.DeviceRegister.TheVariants.{ClockData, ClockCounter, ClockStatus, ClockControl, InputData, InputNothing}
use Rattle.isa.specs.declared.device.DeviceRegister.TheVariants.{InputStatus, InputControl, OutputNothing, OutputData, OutputStatus, OutputControl}
use Rattle.devices.proofs.Laws.{exchanges}
use Rattle.devices.proofs.register.exchange.Goals as goal

pub returns-in-ClockData : goal.returns-in-ClockData
returns-in-ClockData c = rw c.in-ClockData.is (exchanges c.answered.ensures c.args.a ClockData (λ f p k. refl))

pub returns-in-ClockCounter : goal.returns-in-ClockCounter
returns-in-ClockCounter c =
    rw c.in-ClockCounter.is (exchanges c.answered-in-ClockCounter.ensures c.args.a ClockCounter (λ f p k. refl))

pub returns-in-ClockStatus : goal.returns-in-ClockStatus
returns-in-ClockStatus c =
    rw c.in-ClockStatus.is (exchanges c.clock_status.ensures c.args.a ClockStatus (λ f p k. refl))

pub returns-in-ClockControl : goal.returns-in-ClockControl
returns-in-ClockControl c =
    rw c.in-ClockControl.is (exchanges c.clock_controlled.ensures c.args.a ClockControl (λ f p k. refl))

pub returns-in-InputData : goal.returns-in-InputData
returns-in-InputData c =
    rw c.in-InputData.is (exchanges c.character_read.ensures c.args.a InputData (λ f p k. refl))

pub returns-in-InputNothing : goal.returns-in-InputNothing
returns-in-InputNothing c =
    rw c.in-InputNothing.is (exchanges c.answered-in-InputNothing.ensures c.args.a InputNothing (λ f p k. refl))

pub returns-in-InputStatus : goal.returns-in-InputStatus
returns-in-InputStatus c =
    rw c.in-InputStatus.is (exchanges c.input_status.ensures c.args.a InputStatus (λ f p k. refl))

pub returns-in-InputControl : goal.returns-in-InputControl
returns-in-InputControl c =
    rw c.in-InputControl.is (exchanges c.input_controlled.ensures c.args.a InputControl (λ f p k. refl))

pub returns-in-OutputNothing : goal.returns-in-OutputNothing
returns-in-OutputNothing c =
    rw c.in-OutputNothing.is (exchanges c.answered-in-OutputNothing.ensures c.args.a OutputNothing (λ f p k. refl))

pub returns-in-OutputData : goal.returns-in-OutputData
returns-in-OutputData c =
    rw c.in-OutputData.is (exchanges c.character_sent.ensures c.args.a OutputData (λ f p k. refl))

pub returns-in-OutputStatus : goal.returns-in-OutputStatus
returns-in-OutputStatus c =
    rw c.in-OutputStatus.is (exchanges c.output_status.ensures c.args.a OutputStatus (λ f p k. refl))

pub returns-in-OutputControl : goal.returns-in-OutputControl
returns-in-OutputControl c =
    rw c.in-OutputControl.is (exchanges c.output_controlled.ensures c.args.a OutputControl (λ f p k. refl))
