use Rattle.std.proofs.Common.{◌≡◌, ◌++◌, OnOk, string_bytes, subst, sym}
use Rattle.sal_data.specs.declared.fault.DataFault.{DataFault}
use Rattle.sal_script.specs.Report.{data_fault_text}
use Rattle.sal_report.proofs.faults.push_data_fault.Goals as goal

pub returns-in-NeedsModule : goal.returns-in-NeedsModule
returns-in-NeedsModule c =
    let call = c.push_named-in-NeedsModule in
    let P : DataFault → Type 0 = λ fault. OnOk call.result (string_bytes call.new.text ≡ string_bytes c.args.text.now ++ data_fault_text c.args.schema.now fault) in
    subst P (sym c.in-NeedsModule.is) call.ensures

pub returns-in-WrongShape : goal.returns-in-WrongShape
returns-in-WrongShape c =
    let call = c.push_place in
    let P : DataFault → Type 0 = λ fault. OnOk call.result (string_bytes call.new.text ≡ string_bytes c.args.text.now ++ data_fault_text c.args.schema.now fault) in
    subst P (sym c.in-WrongShape.is) call.ensures

pub returns-in-MissingKey : goal.returns-in-MissingKey
returns-in-MissingKey c =
    let call = c.push_place-in-MissingKey in
    let P : DataFault → Type 0 = λ fault. OnOk call.result (string_bytes call.new.text ≡ string_bytes c.args.text.now ++ data_fault_text c.args.schema.now fault) in
    subst P (sym c.in-MissingKey.is) call.ensures

pub returns-in-KeyDiffers : goal.returns-in-KeyDiffers
returns-in-KeyDiffers c =
    let call = c.push_place-in-KeyDiffers in
    let P : DataFault → Type 0 = λ fault. OnOk call.result (string_bytes call.new.text ≡ string_bytes c.args.text.now ++ data_fault_text c.args.schema.now fault) in
    subst P (sym c.in-KeyDiffers.is) call.ensures

pub returns-in-DoubleEntry : goal.returns-in-DoubleEntry
returns-in-DoubleEntry c =
    let call = c.push_place-in-DoubleEntry in
    let P : DataFault → Type 0 = λ fault. OnOk call.result (string_bytes call.new.text ≡ string_bytes c.args.text.now ++ data_fault_text c.args.schema.now fault) in
    subst P (sym c.in-DoubleEntry.is) call.ensures
