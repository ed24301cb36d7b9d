pub mod Met
pub mod Balance
pub mod Certificates
