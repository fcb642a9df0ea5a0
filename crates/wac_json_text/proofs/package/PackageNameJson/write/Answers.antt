use Rattle.wac_json_text.proofs.Common.{parts_of, package_name_of, version_json}
use Rattle.wac_json_forms.specs.Forms.{package_name_json, span_json}
use Rattle.json.specs.Print.{escape_byte}
use Rattle.wac_json_text.proofs.Joined.{as_form, ends, form, put, then}
use Rattle.wac_json_text.proofs.Steps.{of_option}
use Rattle.wac_json_text.proofs.package.PackageNameJson.write.Goals as goal

pub returns : goal.returns
unfolding package_name_json span_json escape_byte
returns g c =
    as_form (package_name_json (package_name_of c.args.self.now)) (ends c.and-8.ensures (then c.and-7.ensures (then c.and-6.ensures (then c.and-5.ensures (then c.and-4.ensures (then c.and-3.ensures (then c.and-2.ensures (then c.and.ensures (put c.blank.ensures) (put c.write_inside.ensures)) (put c.blank-2.ensures)) (put c.write_inside-2.ensures)) (put c.blank-3.ensures)) (put c.write_inside-3.ensures)) (put c.blank-4.ensures)) (form _ (of_option version_json parts_of _ c.write.ensures))) c.blank-5.ensures)
