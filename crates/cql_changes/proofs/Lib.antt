pub mod ChangeAgree
