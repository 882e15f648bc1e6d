pub mod SheetLaws
pub mod Passed
pub mod TangentLaws
pub mod SideReadable
pub mod ThermalLaws
pub mod SheetCoefficients
